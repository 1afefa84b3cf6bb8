-- Of a unit's bases the ranges of a list depend on that of addresses alone.
use Rattle.std.proofs.Common.{◌≡◌, ℕ, List, Option, Result, Err, arith}
use Rattle.std.specs.Prelude.{MatchOption}
use Rattle.dw_model.specs.Reading.{Place}
use Rattle.dw_model.specs.Entry.{Entry}
use Rattle.dw_model.specs.Text.{Tables, Bases, address}
use Rattle.dw_model.specs.Faults.{Bad, bad}
use Rattle.dw_model.specs.Ranges.{list_ranges, RangeEntry, entry_ranges, first_base, ranges_of}
use Rattle.dw_forms.specs.declared.value.Value.{Value as CodeValue}
use Rattle.dw_forms.specs.Value.{value_shown}
use Rattle.dw_units.specs.NamedRanges.{IsNamed}
use Rattle.dw_units.specs.declared.named_ranges.NamedRanges.{NamedRanges}
use Rattle.dw_units.specs.declared.named_ranges.NamedRanges.TheVariants.{List as Listed}
use Rattle.dw_ranges.specs.declared.range_list.RangeList.{RangeList}
use Rattle.dw_ranges.specs.Step.{all_kept, ranges_from}
use Rattle.dw_ranges.specs.Lists.{only_addr, ranges_of_list, IsListOf, IsOneAtMost}
use Rattle.dw_ranges.proofs.NamedLemmas.{by_named}

entries-only : (tables : Tables) (bases : Bases) (base : Result ℕ Bad) (entries : List RangeEntry) → entry_ranges tables bases base entries ≡ entry_ranges tables (only_addr bases.addr) base entries
unfolding entry_ranges address
entries-only tables bases base entries = grind arith

pub from_only : (tables : Tables) (bases : Bases) (base : Result ℕ Bad) (p : Place) → ranges_from tables bases base p ≡ ranges_from tables (only_addr bases.addr) base p
from_only tables bases base p = grind (arith, entries-only)

-- the list that an entry names by a value
pub told-of : (tables : Tables) (bases : Bases) (root : Option Entry) (value : CodeValue) (named : NamedRanges) → named ≡ Listed value → (found : Option RangeList)
    → MatchOption found (all_kept (list_ranges tables bases (first_base tables bases root) (value_shown value)) ≡ Err bad) (λ list. IsListOf tables bases root (value_shown value) list)
    → MatchOption found ((entry : Entry) → IsNamed named entry → IsOneAtMost (ranges_of tables bases root entry)) (λ list. (entry : Entry) → IsNamed named entry → ranges_of tables bases root entry ≡ ranges_of_list tables list)
told-of tables bases root value named is found h = grind (arith, (λ (entry : Entry). by_named tables bases root named entry))

-- without a list there is one range at most
pub few-of : (tables : Tables) (bases : Bases) (root : Option Entry) (named : NamedRanges) → ((value : CodeValue) → named ≡ Listed value → ⊥) → (entry : Entry) → IsNamed named entry → IsOneAtMost (ranges_of tables bases root entry)
few-of tables bases root named none entry names = grind (arith, (by_named tables bases root named entry names))
