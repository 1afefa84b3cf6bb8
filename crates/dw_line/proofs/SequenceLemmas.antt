-- The first sequence that holds an address, by its number.
use Rattle.std.proofs.Common.{◌≡◌, ◌∙◌, ℕ, zero, suc, ◌+◌, ◌<◌, ◌≤◌, Bool, List, [], ◌∷◌, length, filter, get_or, Some, None, refl, ap, arith}
use Rattle.std.specs.Prelude.{◌&&◌, nat_le, nat_lt, find, slice_get, option_and_then}
use Rattle.std.specs.List.{position_from, position_or_len}
use Rattle.std.proofs.lemmas.Option.{same_Some, cond_some, slice_get-get_or}
use Rattle.std.proofs.lemmas.Bool.{leb-true, ltb-true, and_parts, cases_Bool}
use Rattle.std.proofs.lemmas.Iterator.Adapters.{position_from-zero}
use Rattle.std.proofs.lemmas.List.Folds.{find_at}
use Rattle.std.proofs.lemmas.List.Quantifiers.{position-Some}
use Rattle.dw_model.specs.Matrix.{Row, sequences, is_used, first_address, last_address, row_in, row_of}
use Rattle.dw_index.specs.Owners.{least_owner}
use Rattle.dw_index.proofs.LawLemmas.{least-first}
use Rattle.dw_line.specs.declared.checkpoints.Checkpoint.{Checkpoint}
use Rattle.dw_line.specs.declared.checkpoints.Sequence.{Sequence}
use Rattle.dw_model.specs.LineHeader.{LineHeader}
use Rattle.dw_line.specs.Sequences.{pairs_from, used_sequences, holds_address, number_among, IsSequence, AreSequences}

-- the sequence holds the address
abbrev Holds : ℕ → Sequence → Bool
Holds a s = nat_le s.begin a && nat_lt a s.end

-- ---- numbers

pub number-there : {X : Type 0} (test : X → Bool) (xs : List X) (k : ℕ) → position_from test 0 xs ≡ Some k → find test xs ≡ slice_get xs k
number-there test xs k e =
    find_at test xs ∙ ap (slice_get xs) (cond_some (nat_lt (position_or_len test xs) (length xs)) (position_or_len test xs) k (position_from-zero test xs ∙ e)).1

pub number-nowhere : {X : Type 0} (test : X → Bool) (n : ℕ) (xs : List X) → position_from test n xs ≡ None → find test xs ≡ None
number-nowhere test n [] e = refl
number-nowhere test n (x ∷ xs) e = grind (arith, cases_Bool, number-nowhere test (n + 1) xs)

-- ---- the least owner is the first sequence

pub least-is-first : (a n : ℕ) (ss : List Sequence) → least_owner (pairs_from n ss) a ≡ position_from (Holds a) n ss
unfolding least_owner
least-is-first a n [] = refl
least-is-first a n (s ∷ ss) = rw (least-is-first a (n + 1) ss) (least-first (Holds a) (Holds a s) n ss)

-- ---- sequences by their rows

pub number-by_rows : (header : LineHeader) (checkpoints : List Checkpoint) (end a n : ℕ) (ss : List Sequence) (used : List (List Row)) → AreSequences header checkpoints end ss used → position_from (holds_address a) n used ≡ position_from (Holds a) n ss
number-by_rows header checkpoints end a n [] [] each = refl
number-by_rows header checkpoints end a n [] (rows ∷ used) each = absurd each
number-by_rows header checkpoints end a n (s ∷ ss) [] each = absurd each
number-by_rows header checkpoints end a n (s ∷ ss) (rows ∷ used) each =
    grind (arith, number-by_rows header checkpoints end a (n + 1) ss used each.1)

-- what is kept of the rows that have a number
pub record Kept (header : LineHeader) (checkpoints : List Checkpoint) (end k : ℕ) (ss : List Sequence) (rows : List Row) : Type 0 where
  pub sequence : Sequence
  pub there : slice_get ss k ≡ Some sequence
  pub is : IsSequence header checkpoints end sequence rows

pub kept_at : (header : LineHeader) (checkpoints : List Checkpoint) (end k : ℕ) (ss : List Sequence) (used : List (List Row)) (rows : List Row) → AreSequences header checkpoints end ss used → slice_get used k ≡ Some rows → Kept header checkpoints end k ss rows
kept_at header checkpoints end k [] [] rows each e = absurd cc
kept_at header checkpoints end k [] (first ∷ used) rows each e = absurd each
kept_at header checkpoints end k (s ∷ ss) [] rows each e = absurd each
kept_at header checkpoints end zero (s ∷ ss) (first ∷ used) rows each e = grind (arith, same_Some)
kept_at header checkpoints end (suc k) (s ∷ ss) (first ∷ used) rows each e =
    grind (arith, kept_at header checkpoints end k ss used rows each.1 e)

-- ---- the row of an address

found-used : (a : ℕ) (ss : List (List Row)) → find (λ s. is_used s && nat_le (first_address s) a && nat_lt a (last_address s)) ss ≡ find (holds_address a) (filter is_used ss)
found-used a [] = refl
found-used a (s ∷ ss) = grind (arith, cases_Bool, found-used a ss)

-- the rows of the first sequence that holds the address
pub record Held (used : List (List Row)) (a k : ℕ) : Type 0 where
  pub rows : List Row
  pub there : slice_get used k ≡ Some rows
  pub from : first_address rows ≤ a
  pub below : a < last_address rows

pub held : (used : List (List Row)) (a k : ℕ) → number_among used a ≡ Some k → Held used a k
held used a k e =
    let rows = get_or used k [] in
    let found = position-Some (holds_address a) used k [] (position_from-zero (holds_address a) used ∙ e) in
    let parts = and_parts (nat_le (first_address rows) a) (nat_lt a (last_address rows)) found.1 in
    record {
      rows = rows;
      there = slice_get-get_or used k [] found.0;
      from = leb-true (first_address rows) a parts.0;
      below = ltb-true a (last_address rows) parts.1;
    }

pub is-there : (all : List Row) (a k : ℕ) (rows : List Row) → number_among (used_sequences all) a ≡ Some k → slice_get (used_sequences all) k ≡ Some rows → row_of all a ≡ row_in a rows
unfolding row_of
is-there all a k rows e there = grind (arith, found-used, number-there)

pub is-nowhere : (all : List Row) (a : ℕ) → number_among (used_sequences all) a ≡ None → row_of all a ≡ None
unfolding row_of
is-nowhere all a e = ap (option_and_then (row_in a)) (found-used a (sequences all) ∙ number-nowhere (holds_address a) 0 (used_sequences all) e)
