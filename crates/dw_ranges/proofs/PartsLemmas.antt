-- A list read for its index, entry by entry.
use Rattle.std.proofs.Common.{arith, ◌≡◌, ◌⊎◌, inl, inr, ℕ, ◌<◌, ◌^◌, List, ◌++◌, Option, Some, None, Result, Ok, Err}
use Rattle.std.specs.Prelude.{MatchOption, option_to_list}
use Rattle.std.specs.Option.{option_or}
use Rattle.std.proofs.lemmas.List.{append-nil}
use Rattle.dw_model.specs.Answers.{Tells}
use Rattle.dw_model.specs.Reading.{Place}
use Rattle.dw_model.specs.Text.{Tables, Bases}
use Rattle.dw_model.specs.Faults.{Bad, bad}
use Rattle.dw_model.specs.Ranges.{Range, RangeEntry, next_range_entry}
use Rattle.dw_index.specs.Owners.{least_owner}
use Rattle.dw_ranges.specs.declared.list_index.parts.Parts.{Parts}
use Rattle.dw_ranges.specs.OutcomeShown.{base_shown}
use Rattle.dw_ranges.specs.Parts.{base_by, own_offsets}
use Rattle.dw_ranges.specs.PartsInside.{AddsCounted, AddsFixed, AreRead, IsFresh, MakesRead}
use Rattle.dw_ranges.specs.Step.{ranges_from, step}
use Rattle.dw_ranges.specs.Tails.{onto_front}
use Rattle.dw_ranges.proofs.ListLemmas.{Ranges, front_append, front-nil, one_fault, ranges-end, ranges-fault, ranges-turn}

-- ---- what an entry does from the list's base, which counts from none of its own

pub from-first : (tables : Tables) (bases : Bases) (own behind first : Option ℕ) (entry : RangeEntry) (one : Option Range) → own_offsets own entry ≡ None
    → step tables bases (base_shown own) entry ≡ Ok (record { base = base_shown behind; range = one })
    → step tables bases (base_shown (option_or own first)) entry ≡ Ok (record { base = base_shown (option_or behind first); range = one })
unfolding step
from-first tables bases own behind first entry one free does = grind arith

fails-first : (tables : Tables) (bases : Bases) (own first : Option ℕ) (entry : RangeEntry) (f : Bad) → own_offsets own entry ≡ None → step tables bases (base_shown own) entry ≡ Err f → step tables bases (base_shown (option_or own first)) entry ≡ Err f
unfolding step
fails-first tables bases own first entry f free fails = grind arith

-- ---- as a loop reads them

-- What was read from a base, and then what the entries that are left make, is all; or it can't be
-- read, since entries count from a base that isn't there.
abbrev From : Tables → Bases → Parts → (first : Option ℕ) → Place → Ranges → (from : Option ℕ) → Type 0
From tables bases parts first p all from = MatchOption from (all ≡ Err bad)
    (λ base. (found : List Range) × (onto_front found (ranges_from tables bases (base_shown (option_or parts.base first)) p) ≡ all)
    × (base < 2 ^ 64 → MakesRead parts base found))

abbrev pub SoFar : Tables → Bases → Parts → (first : Option ℕ) → Place → Ranges → Type 0
SoFar tables bases parts first p all = From tables bases parts first p all (base_by parts.is_counted first)

pub none-read : (tables : Tables) (bases : Bases) (parts : Parts) (first : Option ℕ) (p : Place) → IsFresh parts → SoFar tables bases parts first p (ranges_from tables bases (base_shown first) p)
unfolding least_owner
none-read tables bases parts first p fresh = grind (arith, front-nil)

module _ (tables : Tables) (bases : Bases) (old new : Parts) (first : Option ℕ) (p q : Place) (entry : RangeEntry) (all : Ranges) (read : next_range_entry p ≡ Ok (Some entry, q)) (so_far : SoFar tables bases old first p all) where
  -- the entry makes at most one range
  on-one : (found : List Range) (one : Option Range) → step tables bases (base_shown (option_or old.base first)) entry ≡ Ok (record { base = base_shown (option_or new.base first); range = one })
      → onto_front found (ranges_from tables bases (base_shown (option_or old.base first)) p) ≡ all
      → onto_front (found ++ option_to_list one) (ranges_from tables bases (base_shown (option_or new.base first)) q) ≡ all
  on-one found one does is = grind (arith, front_append, (ranges-turn tables bases (base_shown (option_or old.base first)) entry p q read))

  fixed-on : AddsFixed tables bases entry old new → SoFar tables bases new first q all
  fixed-on adds = rw (adds.counted) (by (base_by old.is_counted first) so_far)
    where
      by : (from : Option ℕ) → From tables bases old first p all from → From tables bases new first q all from
      by None so_far = so_far
      by (Some base) so_far = (
        so_far.0 ++ option_to_list adds.one,
        on-one so_far.0 adds.one (from-first tables bases old.base new.base first entry adds.one adds.offsets adds.does) so_far.1,
        λ small. adds.ranges base so_far.0 small (so_far.2 small),
      )

  counted-on : AddsCounted entry old new → SoFar tables bases new first q all
  unfolding step
  counted-on adds = grind (arith, front_append, (ranges-turn tables bases (base_shown (option_or old.base first)) entry p q read))

pub all-read : (tables : Tables) (bases : Bases) (parts : Parts) (first : Option ℕ) (p q : Place) (all : Ranges) → next_range_entry p ≡ Ok (None, q) → SoFar tables bases parts first p all → AreRead (base_by parts.is_counted first) parts all
all-read tables bases parts first p q all read so_far = grind (arith, ranges-end, append-nil)

-- where no range can be read any more, none can be of the list
none-readable : (tables : Tables) (bases : Bases) (parts : Parts) (first : Option ℕ) (p : Place) (all : Ranges) (f : Bad) → SoFar tables bases parts first p all → ranges_from tables bases (base_shown (option_or parts.base first)) p ≡ Err f → all ≡ Err f
none-readable tables bases parts first p all f so_far fails = grind (arith, one_fault)

told-all : {X : Type 0} (told own : Option Bad) (part : Result X Bad) (all : Option ℕ → Ranges) → own ≡ told → Tells told part → ((f : Bad) (first : Option ℕ) → part ≡ Err f → all first ≡ Err f) → MatchOption own (Unit {0}) (λ f. (first : Option ℕ) → all first ≡ Err f)
told-all told own part all same fault h = grind arith

module _ (tables : Tables) (bases : Bases) (parts : Parts) (start p : Place) (so_far : (first : Option ℕ) → SoFar tables bases parts first p (ranges_from tables bases (base_shown first) start)) where
  -- the next entry can't be read
  pub no-entry : (told own : Option Bad) → own ≡ told → Tells told (next_range_entry p) → MatchOption own (Unit {0}) (λ f. (first : Option ℕ) → ranges_from tables bases (base_shown first) start ≡ Err f)
  no-entry told own same fault =
      told-all told own (next_range_entry p) (λ first. ranges_from tables bases (base_shown first) start) same fault (λ f first e. none-readable tables bases parts first p _ f (so_far first) (ranges-fault tables bases _ p f e))

  -- an address that it names can't be read
  pub no-address : (told own : Option Bad) (entry : RangeEntry) (q : Place) → own ≡ told → next_range_entry p ≡ Ok (Some entry, q)
      → MatchOption told (Unit {0}) (λ f. (own_offsets parts.base entry ≡ None) × (step tables bases (base_shown parts.base) entry ≡ Err f))
      → MatchOption own (Unit {0}) (λ f. (first : Option ℕ) → ranges_from tables bases (base_shown first) start ≡ Err f)
  no-address told own entry q same read fault = grind (arith, none-readable, (λ (first : Option ℕ). fails-first tables bases parts.base first entry), (λ (first : Option ℕ). ranges-turn tables bases (base_shown (option_or parts.base first)) entry p q read))

  pub all-on : (new : Parts) (entry : RangeEntry) (q : Place) → next_range_entry p ≡ Ok (Some entry, q) → AddsCounted entry parts new ⊎ AddsFixed tables bases entry parts new
      → (first : Option ℕ) → SoFar tables bases new first q (ranges_from tables bases (base_shown first) start)
  all-on new entry q read (inl adds) first = counted-on tables bases parts new first p q entry _ read (so_far first) adds
  all-on new entry q read (inr adds) first = fixed-on tables bases parts new first p q entry _ read (so_far first) adds
