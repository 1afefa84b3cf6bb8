-- The row of an address in a sequence, from one of its checkpoints on.
use Rattle.std.proofs.Common.{◌≡◌, ℕ, zero, suc, ◌+◌, ◌-◌, ◌*◌, ◌<◌, ◌≤◌, true, false, List, [], ◌∷◌, length, drop, get_or, Option, Some, None, ◌⊎◌, inl, inr, refl, sym, subst, ap, ◌∙◌, arith}
use Rattle.std.specs.Prelude.{nat_le, nat_lt, IfSome, MatchOption, option_map, slice_get}
use Rattle.std.specs.List.Sorted.{IsNonDecreasingBy, IsPartitionPoint}
use Rattle.std.proofs.Math.Seq.{drop-nil}
use Rattle.std.proofs.lemmas.Bool.{cases_lt, leb-true, leb-false, lt-ltb, le-leb, lt-leb, le-ltb, ltb-true, and_parts, and_right}
use Rattle.std.proofs.lemmas.List.{drop-drop, length-drop}
use Rattle.std.proofs.lemmas.List.Sorted.{IsNonDecreasingBy-from_all_adjacent}
use Rattle.std.proofs.lemmas.Option.{slice_get-get_or}
use Rattle.dw_model.specs.LineHeader.{LineHeader}
use Rattle.dw_model.specs.Matrix.{Row, never_falls, is_used, first_address, last_address, row_in}
use Rattle.dw_line.specs.declared.checkpoints.Checkpoint.{Checkpoint}
use Rattle.dw_line.specs.declared.search.Reached.{Reached}
use Rattle.dw_line.specs.Sequences.{up_to_end, kept_row, checkpoint_row, IsCheckpoint, AreCheckpoints, HasCheckpoints}
use Rattle.dw_line.specs.Search.{row_told}
use Rattle.dw_line.specs.Reached.{reaches, is_before, IsReached, IsSought, HoldsAddress, FindsFrom, FindsIn}

-- ---- rows that never fall

pub never_falls_used : (rows : List Row) → is_used rows ≡ true → never_falls rows ≡ true
never_falls_used rows used = (and_parts (never_falls rows) (nat_lt (first_address rows) (last_address rows)) used).0

tail_rises : (r : Row) (rows : List Row) → never_falls (r ∷ rows) ≡ true → never_falls rows ≡ true
tail_rises r rows e = grind (arith, and_parts)

next_above : (r s : Row) (rows : List Row) → never_falls (r ∷ s ∷ rows) ≡ true → r.address ≤ s.address
next_above r s rows e = leb-true r.address s.address (and_parts (nat_le r.address s.address) (never_falls (s ∷ rows)) e).0

later_rises : (n : ℕ) (rows : List Row) → never_falls rows ≡ true → never_falls (drop n rows) ≡ true
later_rises zero rows e = e
later_rises (suc n) [] e = refl
later_rises (suc n) (r ∷ rows) e = later_rises n rows (tail_rises r rows e)

first_below : (n : ℕ) (r s : Row) (rows rest : List Row) → never_falls (r ∷ rows) ≡ true → s ∷ rest ≡ drop n (r ∷ rows) → r.address ≤ s.address
first_below zero r s rows rest e h = omega (arith, ap first_address h)
first_below (suc n) r s [] rest e h = absurd (cc (h, drop-nil {A = Row} n))
first_below (suc n) r s (t ∷ rows) rest e h =
    grind (arith, next_above, tail_rises, first_below n t s rows rest (tail_rises r (t ∷ rows) e) h)

last_later : (n : ℕ) (rows : List Row) (s : Row) (rest : List Row) → s ∷ rest ≡ drop n rows → last_address (s ∷ rest) ≡ last_address rows
last_later zero rows s rest h = ap last_address h
last_later (suc n) [] s rest h = absurd cc
last_later (suc n) (r ∷ []) s rest h = absurd (cc (h, drop-nil {A = Row} n))
last_later (suc n) (r ∷ t ∷ rows) s rest h = last_later n (t ∷ rows) s rest h

-- a row whose next one isn't above the address doesn't matter
passed_row : (a : ℕ) (r t : Row) (rows : List Row) → t.address ≤ a → row_in a (r ∷ t ∷ rows) ≡ row_in a (t ∷ rows)
unfolding row_in
passed_row a r t rows h = rw (and_right (nat_le r.address a) (nat_lt a t.address) (le-ltb a t.address h)) refl

-- nor do rows in front of one at or before the address
row_later : (n a : ℕ) (rows : List Row) (s : Row) (rest : List Row) → never_falls rows ≡ true → s ∷ rest ≡ drop n rows → s.address ≤ a → row_in a rows ≡ row_in a (s ∷ rest)
row_later zero a rows s rest e h below = ap (row_in a) (sym h)
row_later (suc n) a [] s rest e h below = absurd cc
row_later (suc n) a (r ∷ []) s rest e h below = absurd (cc (h, drop-nil {A = Row} n))
row_later (suc n) a (r ∷ t ∷ rows) s rest e h below =
    grind (arith, first_below, tail_rises, passed_row, row_later n a (t ∷ rows) s rest (tail_rises r (t ∷ rows) e) h below)

-- an address before the first row has none
none_below : (a : ℕ) (rows : List Row) → never_falls rows ≡ true → a < first_address rows → row_in a rows ≡ None
unfolding row_in
none_below a [] e h = refl
none_below a (r ∷ []) e h = refl
none_below a (r ∷ t ∷ rows) e h =
    let next = next_above r t rows e in
    rw (lt-leb r.address a h) (none_below a (t ∷ rows) (tail_rises r (t ∷ rows) e) (omega (arith, h, next)))

-- a row before whose next one the address lies is its own
own_row : (a : ℕ) (r : Row) (own : List Row) → r.address ≤ a → a < first_address own → row_in a (r ∷ own) ≡ Some r
unfolding row_in
own_row a r own below above = grind (arith, le-leb, lt-ltb)

-- an address from the first row on and before the last has a row
pub has_row : (a : ℕ) (rows : List Row) → never_falls rows ≡ true → first_address rows ≤ a → a < last_address rows → row_in a rows ≡ None → ⊥
has_row a [] never from below none = absurd (omega (arith, below))
has_row a (r ∷ []) never from below none = absurd (omega (arith, from, below))
has_row a (r ∷ t ∷ rows) never from below none =
    grind (arith, cases_lt, own_row, tail_rises, passed_row, has_row a (t ∷ rows) (tail_rises r (t ∷ rows) never))

short : (a : ℕ) (rows : List Row) → length rows ≤ 1 → row_in a rows ≡ None
unfolding row_in
short a [] h = refl
short a (r ∷ []) h = refl
short a (r ∷ s ∷ rows) h = absurd (omega (arith, h))

-- ---- checkpoints

checkpoint_at : (header : LineHeader) (checkpoints : List Checkpoint) (rows : List Row) → AreCheckpoints header checkpoints rows → (k : ℕ) (d : Checkpoint) → k < length checkpoints → IsCheckpoint header (get_or checkpoints k d) (drop (64 * k) rows)
checkpoint_at header [] rows are k d h = absurd (omega (arith, h))
checkpoint_at header (c ∷ checkpoints) rows are zero d h = are.0
checkpoint_at header (c ∷ checkpoints) rows are (suc k) d h =
    let places : 64 + 64 * k ≡ 64 * suc k = omega arith in
    subst (λ (rest : List Row). IsCheckpoint header (get_or checkpoints k d) rest) (drop-drop (64 * k) 64 rows ∙ ap (λ (n : ℕ). drop n rows) places) (checkpoint_at header checkpoints (drop 64 rows) are.1 k d (omega (arith, h)))

pub rises : (header : LineHeader) (checkpoints : List Checkpoint) (rows : List Row) → HasCheckpoints header checkpoints rows → IsNonDecreasingBy (λ checkpoint. checkpoint.registers.address) checkpoints
rises header checkpoints rows has =
    IsNonDecreasingBy-from_all_adjacent (λ checkpoint. checkpoint.registers.address) checkpoints
    (λ k d h.
    let one = checkpoint_at header checkpoints rows has.each k d (omega (arith, h)) in
    let other = checkpoint_at header checkpoints rows has.each (k + 1) d (omega (arith, h)) in
    let never : never_falls rows ≡ true = never_falls_used rows has.used in
    let places : 64 * k + 64 ≡ 64 * (k + 1) = omega arith in
    let there = other.rest ∙ ap (λ (n : ℕ). drop n rows) (sym places) ∙ sym (drop-drop 64 (64 * k) rows) ∙ ap (drop 64) (sym one.rest) in
    first_below 64 (checkpoint_row (get_or checkpoints k d)) (checkpoint_row (get_or checkpoints (k + 1) d)) (up_to_end one.others) (up_to_end other.others) (subst (λ (rest : List Row). never_falls rest ≡ true) (sym one.rest) (later_rises (64 * k) rows never)) there)

-- `next` checkpoints lie at the address or before it
abbrev pub Splits : List Checkpoint → (a next : ℕ) → Type 0
Splits checkpoints a next = IsPartitionPoint (λ checkpoint. nat_le checkpoint.registers.address a ≡ true) (λ checkpoint. nat_le checkpoint.registers.address a ≡ false) checkpoints next

pub none_before : (header : LineHeader) (checkpoints : List Checkpoint) (rows : List Row) (a : ℕ) (d : Checkpoint) → HasCheckpoints header checkpoints rows → Splits checkpoints a 0 → row_in a rows ≡ None
none_before header [] rows a d has point = short a rows (omega (arith, has.enough))
none_before header (c ∷ checkpoints) rows a d has point =
    let never : never_falls rows ≡ true = never_falls_used rows has.used in
    let first : c.registers.address ≡ first_address rows = ap first_address has.each.0.rest in
    let above = leb-false c.registers.address a (point.1 0 d (omega arith) (omega arith)) in
    none_below a rows never (omega (arith, first, above))

-- the row of an address at one of the rows or after it, and before the next
pub row_on : (header : LineHeader) (rows : List Row) (a : ℕ) (last : Reached) → never_falls rows ≡ true → IsReached header rows last → last.row.address ≤ a → a < last.next.registers.address → row_in a rows ≡ Some (kept_row last.row)
row_on header rows a last never is below above =
    let r = kept_row last.row in
    let own = drop (is.passed + 1) rows in
    let next : a < first_address own = omega (arith, above, is.is.next.address) in
    row_later is.passed a rows r own never is.is.is below ∙ own_row a r own below next

own_found : (header : LineHeader) (rows : List Row) (a : ℕ) (found : Reached) → never_falls rows ≡ true → IsReached header rows found → HoldsAddress a found → FindsIn header rows a (Some found)
own_found header rows a found never is holds =
    (sym (ap (option_map row_told) (row_on header rows a found never is holds.0 holds.1)), is, holds)

-- ---- from a row on

-- the address lies before the checkpoint with a number, if there is one
abbrev pub Before : List Checkpoint → (number a : ℕ) → Type 0
Before checkpoints number a = (d : Checkpoint) → number < length checkpoints → a < (get_or checkpoints number d).registers.address

pub split_before : (checkpoints : List Checkpoint) (a next : ℕ) → Splits checkpoints a next → Before checkpoints next a
split_before checkpoints a next point = λ d h. leb-false (get_or checkpoints next d).registers.address a (point.1 next d (omega arith) h)

pub is_before_all : (checkpoints : List Checkpoint) (number a : ℕ) → is_before a (slice_get checkpoints number) ≡ true → Before checkpoints number a
is_before_all checkpoints number a e d h = grind (arith, ltb-true, slice_get-get_or)

-- a row above the address isn't in front of one that isn't
not_below : (rows : List Row) (place stop a : ℕ) (r s : Row) (own rest : List Row) → never_falls rows ≡ true → r ∷ own ≡ drop place rows → s ∷ rest ≡ drop stop rows → r.address ≤ a → a < s.address → place ≤ stop
not_below rows place stop a r s own rest e h there below above = elim (cases_lt stop place) [
  | inl less ↦ (
      let places : stop + (place - stop) ≡ place = omega (arith, less) in
      let same = h ∙ ap (λ (n : ℕ). drop n rows) (sym places) ∙ sym (drop-drop (place - stop) stop rows) ∙ ap (drop (place - stop)) (sym there) in
      let order = first_below (place - stop) s r rest own (subst (λ (rows : List Row). never_falls rows ≡ true) (sym there) (later_rises stop rows e)) same in
      absurd (omega (arith, order, below, above)))
  | inr more ↦ more
]

-- the last of some rows
last_first : (rows : List Row) → first_address (drop (length rows - 1) rows) ≡ last_address rows
last_first [] = refl
last_first (r ∷ own) =
    let size : length (r ∷ own) - 1 ≡ length own = omega arith in
    ap (λ (n : ℕ). first_address (drop n (r ∷ own))) size ∙ by r own
  where
    by : (r : Row) (own : List Row) → first_address (drop (length own) (r ∷ own)) ≡ last_address (r ∷ own)
    by r [] = refl
    by r (s ∷ own) = by s own

-- from a row that isn't above an address, and from which it is at most 64 rows to the next
-- checkpoint, the address is sought
sought : (header : LineHeader) (checkpoints : List Checkpoint) (rows : List Row) (a place number : ℕ) (c : Checkpoint) → HasCheckpoints header checkpoints rows → a < last_address rows → IsCheckpoint header c (drop place rows) → c.registers.address ≤ a → 64 * number ≤ place + 64 → Before checkpoints number a
    → IsSought header rows c number a
sought header checkpoints rows a place number c has below_end is below near before = by (cases_lt number (length checkpoints))
  where
    by : (number < length checkpoints) ⊎ (length checkpoints ≤ number) → IsSought header rows c number a
    by (inl more) =
        let next = get_or checkpoints number c in
        let other = checkpoint_at header checkpoints rows has.each number c more in
        let after = not_below rows place (64 * number) a (checkpoint_row c) (checkpoint_row next) (up_to_end is.others) (up_to_end other.others) (never_falls_used rows has.used) is.rest other.rest below (before c more) in
        record { place = place; is = is; near = near; below = below; stop = 64 * number; after = after; soon = near; above = omega (arith, ap first_address other.rest, before c more) }
    by (inr last) =
        let some : 0 < length (drop place rows) = omega (arith, ap length is.rest) in
        let size = length-drop place rows in
        record { place = place; is = is; near = near; below = below; stop = length rows - 1; after = omega (arith, some, size); soon = omega (arith, has.enough, last, near); above = omega (arith, last_first rows, below_end) }

-- What is found from a row on, which isn't above the address, is the row of the address.
pub finds : (header : LineHeader) (checkpoints : List Checkpoint) (rows : List Row) (a place number : ℕ) (c : Checkpoint) (found : Option Reached) → HasCheckpoints header checkpoints rows → a < last_address rows → IsCheckpoint header c (drop place rows) → c.registers.address ≤ a → 64 * number ≤ place + 64 → Before checkpoints number a
    → FindsFrom header c number a found → FindsIn header rows a found
finds header checkpoints rows a place number c found has below_end is below near before from =
    by found (from rows (sought header checkpoints rows a place number c has below_end is below near before))
  where
    by : (found : Option Reached) → MatchOption found ⊥ (λ reached. IsReached header rows reached × HoldsAddress a reached) → FindsIn header rows a found
    by None none = absurd none
    by (Some reached) is = own_found header rows a reached (never_falls_used rows has.used) is.0 is.1

-- the same from the last checkpoint that isn't above the address
pub finds_by_halves : (header : LineHeader) (checkpoints : List Checkpoint) (rows : List Row) (a k : ℕ) (d : Checkpoint) (found : Option Reached) → HasCheckpoints header checkpoints rows → a < last_address rows → k < length checkpoints → Splits checkpoints a (k + 1)
    → FindsFrom header (get_or checkpoints k d) (k + 1) a found → FindsIn header rows a found
finds_by_halves header checkpoints rows a k d found has below_end within point from =
    let is = checkpoint_at header checkpoints rows has.each k d within in
    let below = leb-true (get_or checkpoints k d).registers.address a (point.0 k d (omega arith) (omega arith)) in
    finds header checkpoints rows a (64 * k) (k + 1) (get_or checkpoints k d) found has below_end is below (omega arith) (split_before checkpoints a (k + 1) point) from

-- before the first checkpoint there is no row
pub finds_none : (header : LineHeader) (checkpoints : List Checkpoint) (rows : List Row) (a : ℕ) (d : Checkpoint) → HasCheckpoints header checkpoints rows → Splits checkpoints a 0 → FindsIn header rows a None
finds_none header checkpoints rows a d has point = (sym (ap (option_map row_told) (none_before header checkpoints rows a d has point)), tt, tt)

-- ---- from the row that was found last

pub was_reached : (header : LineHeader) (rows : List Row) (was : Option Reached) (last : Reached) → was ≡ Some last → IfSome was (IsReached header rows) → IsReached header rows last
was_reached header rows was last e is = subst (λ (was : Option Reached). IfSome was (IsReached header rows)) e is

-- what `reaches` says
record Within (checkpoints : List Checkpoint) (last : Reached) (a : ℕ) : Type 0 where
  below : last.row.address ≤ a
  before : Before checkpoints last.next_checkpoint a

within : (checkpoints : List Checkpoint) (last : Reached) (a : ℕ) → reaches last checkpoints a ≡ true → Within checkpoints last a
within checkpoints last a e = grind (arith, and_parts, leb-true, is_before_all)

-- a row after which an address is still below the end has others behind its next one
more_behind : (n a : ℕ) (rows : List Row) (r : Row) (own : List Row) → r ∷ own ≡ drop n rows → r.address ≤ a → first_address own ≤ a → a < last_address rows → 1 < length own
more_behind n a rows r [] h below next below_end =
    let same : r.address ≡ last_address rows = last_later n rows r [] h in
    absurd (omega (arith, same, below, below_end))
more_behind n a rows r (s ∷ []) h below next below_end =
    let same : s.address ≡ last_address rows = last_later n rows r (s ∷ []) h in
    absurd (omega (arith, same, next, below_end))
more_behind n a rows r (s ∷ t ∷ own) h below next below_end = omega arith

-- rows are run on from the next one, where it isn't above the address
on_from_next : (header : LineHeader) (rows : List Row) (a : ℕ) (last : Reached) (is : IsReached header rows last) → last.row.address ≤ a → last.next.registers.address ≤ a → a < last_address rows → IsCheckpoint header last.next (drop (is.passed + 1) rows)
on_from_next header rows a last is below next below_end =
    let own = drop (is.passed + 1) rows in
    let first : first_address own ≤ a = omega (arith, next, is.is.next.address) in
    is.is.next.on (more_behind is.passed a rows (kept_row last.row) own is.is.is below first below_end)

pub finds_onward : (header : LineHeader) (checkpoints : List Checkpoint) (rows : List Row) (a : ℕ) (last : Reached) (found : Option Reached) → HasCheckpoints header checkpoints rows → a < last_address rows → IsReached header rows last → reaches last checkpoints a ≡ true → last.next.registers.address ≤ a → FindsFrom header last.next last.next_checkpoint a found → FindsIn header rows a found
finds_onward header checkpoints rows a last found has below_end is e next from =
    let w = within checkpoints last a e in
    finds header checkpoints rows a (is.passed + 1) last.next_checkpoint last.next found has below_end (on_from_next header rows a last is w.below next below_end) next (omega (arith, is.behind)) w.before from

pub finds_again : (header : LineHeader) (checkpoints : List Checkpoint) (rows : List Row) (a : ℕ) (last : Reached) → HasCheckpoints header checkpoints rows → IsReached header rows last → reaches last checkpoints a ≡ true → a < last.next.registers.address → FindsIn header rows a (Some last)
finds_again header checkpoints rows a last has is e above =
    own_found header rows a last (never_falls_used rows has.used) is ((within checkpoints last a e).below, above)
