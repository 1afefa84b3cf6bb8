use Rattle.std.proofs.Common.{length}
use Rattle.dw_forms.specs.Tables.{tables_shown, bases_shown}
use Rattle.dw_ranges.specs.Step.{ranges_from}
use Rattle.dw_ranges.specs.OutcomeShown.{base_shown}
use Rattle.dw_ranges.proofs.ListLemmas.{SoFar}
use Rattle.dw_ranges.proofs.list.ranges_at.Given as goal

abbrev pub invariant-loop-outcome : goal.invariant-loop-outcome
invariant-loop-outcome l =
    SoFar (tables_shown l.fn.tables) (bases_shown l.fn.bases) l.ranges.items (base_shown l.base) l.cursor (ranges_from (tables_shown l.fn.tables) (bases_shown l.fn.bases) (base_shown l.fn.first) l.fn.cursor)

abbrev pub decreases-loop-outcome : goal.decreases-loop-outcome
decreases-loop-outcome l = length l.cursor.left
