use Rattle.std.proofs.Common.{length}
use Rattle.dw_forms.specs.Tables.{tables_shown}
use Rattle.dw_ranges.proofs.NewLemmas.{NewSoFar}
use Rattle.dw_ranges.proofs.new_ranges.read_new.Given as goal

abbrev pub invariant-loop-cursor : goal.invariant-loop-cursor
invariant-loop-cursor l = NewSoFar (tables_shown l.fn.tables) l.fn.list l.ranges.items l.begins.items l.base l.cursor

abbrev pub decreases-loop-cursor : goal.decreases-loop-cursor
decreases-loop-cursor l = length l.cursor.left
