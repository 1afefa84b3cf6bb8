-- The ranges of a list, entry by entry.
use Rattle.std.proofs.Common.{◌≡◌, ℕ, ◌+◌, Bool, true, false, cond, List, [], ◌∷◌, ◌++◌, map, Option, Some, None, Result, Ok, Err, refl, sym, ap, subst, ◌∙◌, append_assoc}
use Rattle.std.specs.Prelude.{◌||◌, option_map, option_to_list, length, drop, nat_le}
use Rattle.std.proofs.lemmas.Bool.{leb-false}
use Rattle.std.proofs.Common.{◌≤◌, ◌<◌, arith}
use Rattle.std.specs.Option.{option_map_or}
use Rattle.std.proofs.Math.ListN.{drop_of_length-le}
use Rattle.std.proofs.lemmas.List.{append-nil}
use Rattle.std.proofs.lemmas.List.Folds.{list_any-append}
use Rattle.dw_model.specs.Results.{◌>>=◌}
use Rattle.dw_model.specs.Reading.{Place}
use Rattle.dw_model.specs.Text.{Tables, Bases}
use Rattle.dw_model.specs.Faults.{Bad, bad}
use Rattle.dw_model.specs.Ranges.{Range, covers, RangeEntry, next_range_entry, entry_ranges, list_ranges}
use Rattle.dw_model.specs.Form.{Value}
use Rattle.dw_model.proofs.ItemsLemmas.{Advances, items-turn}
use Rattle.dw_model.proofs.AdvanceLemmas.{range_entries_advance}
use Rattle.dw_index.specs.declared.range.Range.{Range as CodeRange}
use Rattle.dw_index.specs.Range.{range_shown}
use Rattle.dw_ranges.specs.Step.{all_kept, Outcome, step, ranges_from, list_place}
use Rattle.dw_ranges.specs.NextOutcome.{done_by, next_outcome}
use Rattle.dw_ranges.specs.Tails.{onto_front}

abbrev pub Ranges : Type 0
Ranges = Result (List Range) Bad

pub front-nil : (later : Ranges) → onto_front [] later ≡ later
front-nil later = grind arith

pub front_append : (first second : List Range) (later : Ranges) → onto_front first (onto_front second later) ≡ onto_front (first ++ second) later
front_append first second later = grind (arith, append_assoc)

-- ---- one entry

-- ---- the entries that are left

pub one_fault : (e f : Bad) → e ≡ f
one_fault bad bad = refl

pub ranges-turn : (tables : Tables) (bases : Bases) (base : Result ℕ Bad) (entry : RangeEntry) (p q : Place) → next_range_entry p ≡ Ok (Some entry, q) → ranges_from tables bases base p ≡ (step tables bases base entry >>= λ o. onto_front (option_to_list o.range) (ranges_from tables bases o.base q))
unfolding entry_ranges step
ranges-turn tables bases base entry p q e = grind (arith, one_fault, (items-turn next_range_entry (λ r. r.left) range_entries_advance p))

pub ranges-end : (tables : Tables) (bases : Bases) (base : Result ℕ Bad) (p q : Place) → next_range_entry p ≡ Ok (None, q) → ranges_from tables bases base p ≡ Ok []
unfolding entry_ranges
ranges-end tables bases base p q e = grind (arith, (items-turn next_range_entry (λ r. r.left) range_entries_advance p))

pub ranges-fault : (tables : Tables) (bases : Bases) (base : Result ℕ Bad) (p : Place) (f : Bad) → next_range_entry p ≡ Err f → ranges_from tables bases base p ≡ Err f
ranges-fault tables bases base p f e = grind (arith, (items-turn next_range_entry (λ r. r.left) range_entries_advance p))

-- ---- what the entries do, one after the other

-- the ranges of an entry that was read, and of those after it
abbrev pub behind_outcome : Tables → Bases → Option Outcome × Place → Ranges
behind_outcome tables bases found =
    option_map_or (λ o. onto_front (option_to_list o.range) (ranges_from tables bases o.base found.1)) found.0 (Ok [])

pub from_outcome : (tables : Tables) (bases : Bases) (base : Result ℕ Bad) (p : Place) → ranges_from tables bases base p ≡ (next_outcome tables bases base p >>= behind_outcome tables bases)
from_outcome tables bases base p = by_read (next_range_entry p) refl
  where
    by_read : (read : Result (Option RangeEntry × Place) Bad) → next_range_entry p ≡ read → ranges_from tables bases base p ≡ ((read >>= done_by tables bases base) >>= behind_outcome tables bases)
    by_read (Err f) e = grind (arith, (ranges-fault tables bases base p f e))
    by_read (Ok (None, q)) e = grind (arith, (ranges-end tables bases base p q e))
    by_read (Ok (Some entry, q)) e = grind (arith, (ranges-turn tables bases base entry p q e))

-- what holds of the place after each entry holds of that after what an entry does
pub behind-entry : (tables : Tables) (bases : Bases) (base : Result ℕ Bad) (q : Place) (o : Outcome) (P : Place → Type 0) (read : Result (Option RangeEntry × Place) Bad) → (read >>= done_by tables bases base) ≡ Ok (Some o, q) → ((entry : RangeEntry) (r : Place) → read ≡ Ok (Some entry, r) → P r) → P q
behind-entry tables bases base q o P (Err f) e h = grind arith
behind-entry tables bases base q o P (Ok (None, r)) e h = grind arith
behind-entry tables bases base q o P (Ok (Some entry, r)) e h = grind (arith, (h entry r refl))

-- each takes a byte at least
pub outcomes_advance : (tables : Tables) (bases : Bases) (base : Result ℕ Bad) → Advances (λ p. p.left) (next_outcome tables bases base)
outcomes_advance tables bases base p o q e = behind-entry tables bases base q o (λ r. length r.left < length p.left) (next_range_entry p) e (range_entries_advance p)

-- ---- as a loop reads them

-- the ranges that were found, and then those of the entries that are left, are all
abbrev pub SoFar : Tables → Bases → List CodeRange → Result ℕ Bad → Place → Ranges → Type 0
SoFar tables bases found base p all =
    onto_front (map range_shown found) (ranges_from tables bases base p) ≡ all

pub map_some : (found : List CodeRange) (last : Option CodeRange) → map range_shown (found ++ option_to_list last) ≡ map range_shown found ++ option_to_list (option_map range_shown last)
map_some [] last = grind arith
map_some (first ∷ found) last = grind (arith, (map_some found))

module _ (tables : Tables) (bases : Bases) (found : List CodeRange) (base : Result ℕ Bad) (p : Place) (all : Ranges) (so_far : SoFar tables bases found base p all) where
  pub goes_on : (q : Place) (behind : Result ℕ Bad) (last : Option CodeRange) → next_outcome tables bases base p ≡ Ok (Some (record { base = behind; range = option_map range_shown last }), q) → SoFar tables bases (found ++ option_to_list last) behind q all
  goes_on q behind last e = grind (arith, from_outcome, map_some, front_append)

-- what an entry does to what was read
pub ruleset entry_steps = (from_outcome, map_some, front_append, append-nil, outcomes_advance)

-- what it does to whether an address is held
held-front : (a : ℕ) (holds : Bool) (one : List Range) (later : Ranges) → (onto_front one later >>= λ ranges. Ok (holds || covers a ranges)) ≡ (later >>= λ ranges. Ok ((holds || covers a one) || covers a ranges))
held-front a holds one later = grind (arith, list_any-append)

pub held-on : (tables : Tables) (bases : Bases) (base behind : Result ℕ Bad) (p q : Place) (a : ℕ) (holds new : Bool) (last : Option CodeRange) (all : Result Bool Bad) → next_outcome tables bases base p ≡ Ok (Some (record { base = behind; range = option_map range_shown last }), q) → new ≡ (holds || covers a (option_to_list (option_map range_shown last)))
    → all ≡ (ranges_from tables bases base p >>= λ ranges. Ok (holds || covers a ranges)) → all ≡ (ranges_from tables bases behind q >>= λ ranges. Ok (new || covers a ranges))
held-on tables bases base behind p q a holds new last all e more so_far = grind (arith, (from_outcome tables bases base p), held-front)

pub ruleset held_steps = (from_outcome, outcomes_advance)

-- ---- the place where a list begins

no_entry : (at : ℕ) → next_range_entry (record { at = at; left = [] }) ≡ Err bad
unfolding next_range_entry
no_entry at = refl

from_place : (tables : Tables) (bases : Bases) (base : Result ℕ Bad) (offset : ℕ) (test : Bool) → nat_le offset (length tables.rnglists) ≡ test → ranges_from tables bases base (record { at = offset; left = drop offset tables.rnglists }) ≡ (cond {A = Result Place Bad} test (Ok (record { at = offset; left = drop offset tables.rnglists })) (Err bad) >>= ranges_from tables bases base)
from_place tables bases base offset true e = refl
from_place tables bases base offset false e =
    let behind = leb-false offset (length tables.rnglists) e in
    let past : length tables.rnglists ≤ offset = omega arith in
    let none : drop offset tables.rnglists ≡ [] = drop_of_length-le tables.rnglists past in
    rw none (ranges-fault tables bases base (record { at = offset; left = [] }) bad (no_entry offset))

pub list_by_place : (tables : Tables) (bases : Bases) (base : Result ℕ Bad) (value : Value) → all_kept (list_ranges tables bases base value) ≡ (list_place tables bases value >>= ranges_from tables bases base)
unfolding list_ranges
list_by_place tables bases base value = grind (arith, from_place)
