use Rattle.std.proofs.Common.{◌-◌, length}
use Rattle.dw_model.specs.Section.{sections}
use Rattle.dw_symbols.specs.Kept.{AreTables}
use Rattle.dw_symbols.specs.Parts.{AreFound}
use Rattle.dw_symbols.proofs.table_cache.KeptTables.look_ahead.Given as goal

abbrev pub invariant-loop-next : goal.invariant-loop-next
invariant-loop-next l = record {
  kept : AreTables (sections l.image).line l.self;
  found : AreFound l.image l.parts l.early;
}

abbrev pub decreases-loop-next : goal.decreases-loop-next
decreases-loop-next l = length l.parts - l.i
