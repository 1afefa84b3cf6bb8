use Rattle.std.proofs.Common.{length}
use Rattle.std.specs.Prelude.{IfSome}
use Rattle.dw_symbols.specs.Kept.{AreTables}
use Rattle.dw_symbols.specs.UnitParts.{IsTable}
use Rattle.dw_symbols.proofs.table_cache.KeptTables.make_room.Given as goal

abbrev pub invariant-loop-self : goal.invariant-loop-self
invariant-loop-self l = record { kept : AreTables l.line l.self; gone : IfSome l.gone (IsTable l.line) }

abbrev pub decreases-loop-self : goal.decreases-loop-self
decreases-loop-self l = length l.self.tables.entries
