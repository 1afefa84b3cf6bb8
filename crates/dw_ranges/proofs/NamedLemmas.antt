-- The ranges that an entry names are its ranges.
use Rattle.std.proofs.Common.{arith, ◌≡◌, false, [], Option, Ok}
use Rattle.dw_model.specs.Entry.{Entry}
use Rattle.dw_model.specs.Text.{Tables, Bases}
use Rattle.dw_model.specs.Ranges.{ranges_of, pc_ranges}
use Rattle.dw_forms.specs.Ranged.{names_ranges}
use Rattle.dw_units.specs.NamedRanges.{IsNamed}
use Rattle.dw_units.specs.declared.named_ranges.NamedRanges.{NamedRanges}
use Rattle.dw_ranges.specs.Named.{ranges_by}

-- an entry that names no ranges has none
pub unnamed : (tables : Tables) (bases : Bases) (root : Option Entry) (entry : Entry) → names_ranges entry ≡ false → ranges_of tables bases root entry ≡ Ok []
unfolding ranges_of pc_ranges
unnamed tables bases root entry none = grind arith

pub by_named : (tables : Tables) (bases : Bases) (root : Option Entry) (named : NamedRanges) (entry : Entry) → IsNamed named entry → ranges_by tables bases root named ≡ ranges_of tables bases root entry
unfolding ranges_of pc_ranges
by_named tables bases root named entry is = grind arith
