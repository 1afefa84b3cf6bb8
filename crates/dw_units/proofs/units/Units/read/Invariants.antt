use Rattle.std.proofs.Common.{length}
use Rattle.dw_units.specs.Sections.{sections_shown}
use Rattle.dw_units.proofs.CutLemmas.{Cutting}
use Rattle.dw_units.proofs.units.Units.read.Given as goal

abbrev pub invariant-loop-cursor : goal.invariant-loop-cursor
invariant-loop-cursor l = Cutting (sections_shown l.sections) l.abbrevs l.units.items l.cursor

abbrev pub decreases-loop-cursor : goal.decreases-loop-cursor
decreases-loop-cursor l = length l.cursor.left
