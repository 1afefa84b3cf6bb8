-- Reading bytes from the front: a value and the place just past it, or nothing.
use Rattle.std.specs.Prelude.{◌≡◌, ◌↔◌, ◌++◌, ℕ, zero, suc, ◌+◌, List, [], ◌∷◌, length, take, drop, Option, Some, None}
use Rattle.std.specs.Prelude.{Result, Ok, Err, nat_le, ◌==◌, if◌then◌else◌}
use Rattle.std.specs.List.{position}
use Rattle.std.specs.Option.{option_map_or}
use Rattle.byteorder.specs.Endian.{little_number}
use Rattle.dw_model.specs.Options as options
use Rattle.dw_model.specs.Results.{◌>>=◌}

-- where a reader is in a piece of bytes: how many it has passed, and which are left
pub record Place : Type 0 where
  pub at : ℕ
  pub left : List ℕ

-- before the first of the bytes
abbrev pub start : List ℕ → Place
start bytes = record { at = 0; left = bytes }

-- n bytes further on
abbrev pub past : ℕ → Place → Place
past n p = record { at = p.at + n; left = drop n p.left }

-- The piece of bytes is between the two places.
abbrev pub Between : Place → List ℕ → Place → Type 0
Between p piece q = (p.left ≡ piece ++ q.left) × (q.at ≡ p.at + length piece)

-- What is between the two places is a piece of which `Is` speaks.
abbrev pub Spans : (List ℕ → Type 0) → Place → Place → Type 0
Spans Is p q = (piece : List ℕ) × Between p piece q × Is piece

-- The bytes begin with a piece of which `Is` speaks.
abbrev pub BeginsWith : (List ℕ → Type 0) → List ℕ → Type 0
BeginsWith Is bytes = (piece rest : List ℕ) × (bytes ≡ piece ++ rest) × Is piece

-- an unsigned number of n bytes, the lowest first
abbrev pub number_at : ℕ → Place → Option (ℕ × Place)
number_at n p = if nat_le n (length p.left) then Some (little_number n p.left, past n p) else None

-- the next n bytes
abbrev pub bytes_at : ℕ → Place → Option (List ℕ × Place)
bytes_at n p = if nat_le n (length p.left) then Some (take n p.left, past n p) else None

-- a text: the bytes before the next zero byte, which is passed
abbrev pub text_at : Place → Option (List ℕ × Place)
text_at p = options.◌>>=◌ (position (λ b. b == 0) p.left) (λ n. Some (take n p.left, past (n + 1) p))

-- what is made of a value that was read
abbrev pub made : {A B E : Type 0} → (A → B) → Result (A × Place) E → Result (B × Place) E
made make read = read >>= λ found. Ok (make found.0, found.1)

-- an item before the others
abbrev pub onto : {S A E : Type 0} → A → Result (List A × S) E → Result (List A × S) E
onto item read = read >>= λ others. Ok (item ∷ others.0, others.1)

-- The items that `next` gives one after the other, each from the state that the one before it left,
-- until it gives none: at most `most` of them.
unfoldable pub items_up_to : {S A E : Type 0} → (S → Result (Option A × S) E) → ℕ → S → Result (List A × S) E
items_up_to next zero s = Ok ([], s)
items_up_to next (suc most) s = do
  found ← next s
  option_map_or (λ item. onto item (items_up_to next most found.1)) found.0 (Ok ([], found.1))

-- All of the items. Each takes a byte at least of those that are left, so there are no more items
-- than bytes.
abbrev pub items : {S A E : Type 0} → (S → List ℕ) → (S → Result (Option A × S) E) → S → Result (List A × S) E
items left next s = items_up_to next (suc (length (left s))) s

-- The items are those that `next` gives one after the other, and the last state is that in which it
-- gives none.
abbrev pub AreItems : {S A E : Type 0} → (S → Result (Option A × S) E) → S → List A → S → Type 0
AreItems next s [] t = next s ≡ Ok (None, t)
AreItems {S} next s (item ∷ others) u = (t : S) × (next s ≡ Ok (Some item, t)) × AreItems next t others u

-- `next` gives the items one after the other, and then the fault.
abbrev pub FailsAfter : {S A E : Type 0} → (S → Result (Option A × S) E) → S → List A → E → Type 0
FailsAfter next s [] fault = next s ≡ Err fault
FailsAfter {S} next s (item ∷ others) fault = (t : S) × (next s ≡ Ok (Some item, t)) × FailsAfter next t others fault

-- All items are read exactly where `next` gives just these and then none; a fault is read exactly
-- where `next` gives items and then this fault.
pub record AreRead {S A E : Type 0} (left : S → List ℕ) (next : S → Result (Option A × S) E) : Type 0 where
  pub read : (s t : S) (all : List A) → (items left next s ≡ Ok (all, t)) ↔ AreItems next s all t
  pub fails : (s : S) (fault : E)
      → (items left next s ≡ Err fault) ↔ ((before : List A) × FailsAfter next s before fault)
