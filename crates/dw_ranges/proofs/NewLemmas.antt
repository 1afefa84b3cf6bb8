-- The ranges of a list up to where it goes on as one that was read.
use Rattle.std.proofs.Common.{◌≡◌, ◌⊎◌, ℕ, false, List, [], ◌∷◌, ◌++◌, length, map, Option, Some, Ok, arith}
use Rattle.std.proofs.lemmas.Bool.{ne_eqb}
use Rattle.std.specs.Prelude.{◌==◌, IsSome, option_to_list}
use Rattle.dw_model.specs.Reading.{Place}
use Rattle.dw_model.specs.Ranges.{Range}
use Rattle.dw_model.specs.Text.{Tables}
use Rattle.dw_model.proofs.StepLemmas.{ok_is}
use Rattle.dw_index.specs.declared.range.Range.{Range as CodeRange}
use Rattle.dw_index.specs.Range.{range_shown}
use Rattle.dw_ranges.specs.declared.range_list.RangeList.{RangeList}
use Rattle.dw_ranges.specs.declared.step.Outcome.{Outcome}
use Rattle.dw_ranges.specs.Lists.{only_addr, ranges_of_list}
use Rattle.dw_ranges.specs.NextOutcome.{next_outcome}
use Rattle.dw_ranges.specs.OutcomeShown.{base_shown, outcome_shown}
use Rattle.dw_ranges.specs.ReadLists.{Has}
use Rattle.dw_ranges.specs.Step.{ranges_from}
use Rattle.dw_ranges.specs.Tails.{EndsAs, onto_front, tail_at}
use Rattle.dw_ranges.proofs.ListLemmas.{Ranges, SoFar, from_outcome, goes_on}
use Rattle.dw_ranges.proofs.PlaceLemmas.{IsIn, in-place, outcome-in}

-- the list that begins at a place has the ranges from there on
tail-is : (tables : Tables) (p : Place) (base addr : Option ℕ) → IsIn tables.rnglists p → ranges_of_list tables (record { begin = p.at; base = base; addr = addr }) ≡ ranges_from tables (only_addr addr) (base_shown base) p
tail-is tables p base addr is = grind (arith, in-place)

front-some : (one : Range) (later : Ranges) (ranges : List Range) → onto_front (one ∷ []) later ≡ Ok ranges → (length ranges == 0) ≡ false
front-some one later ranges e = grind (arith, ok_is, ne_eqb)

-- What was read of a list, and the places where lists begin that end as it does.
pub record NewSoFar (tables : Tables) (list : RangeList) (ranges : List CodeRange) (begins : List ℕ) (base : Option ℕ) (p : Place) : Type 0 where
  pub so_far : SoFar tables (only_addr list.addr) ranges (base_shown base) p (ranges_of_list tables list)
  pub is_in : IsIn tables.rnglists p
  pub begins_are : (begin : ℕ) → Has begins begin → EndsAs tables list (tail_at list begin)

module _ (tables : Tables) (list : RangeList) (ranges : List CodeRange) (begins : List ℕ) (base : Option ℕ) (p : Place) (is : NewSoFar tables list ranges begins base p) where
  -- the list goes on as another one
  pub goes-on-as : ranges_of_list tables list ≡ onto_front (map range_shown ranges) (ranges_of_list tables (record { begin = p.at; base = base; addr = list.addr }))
  goes-on-as = grind (arith, tail-is)

  by-range : (q : Place) (behind : Option ℕ) (last : Option CodeRange) → IsSome last → base ≡ list.base → next_outcome tables (only_addr list.addr) (base_shown base) p ≡ Ok (Some (outcome_shown (record { base = behind; range = last })), q) → EndsAs tables list (tail_at list p.at)
  by-range q behind last some same e = grind (arith, goes-on-as, tail-is, from_outcome, front-some)

  pub new-on : (q : Place) (o : Outcome) (more : List CodeRange) (more_begins : List ℕ) → next_outcome tables (only_addr list.addr) (base_shown base) p ≡ Ok (Some (outcome_shown o), q) → more ≡ ranges ++ option_to_list o.range
      → ((begin : ℕ) → Has more_begins begin → ((base ≡ list.base) × IsSome o.range × (p.at ≡ begin)) ⊎ Has begins begin) → NewSoFar tables list more more_begins o.base q
  new-on q o more more_begins e is_more pushed = grind (arith, goes_on, outcome-in, by-range)
