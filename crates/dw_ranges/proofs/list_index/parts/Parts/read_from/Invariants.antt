use Rattle.std.proofs.Common.{ℕ, Option, length}
use Rattle.dw_forms.specs.Tables.{tables_shown, bases_shown}
use Rattle.dw_ranges.specs.OutcomeShown.{base_shown}
use Rattle.dw_ranges.specs.Step.{ranges_from}
use Rattle.dw_ranges.proofs.PartsLemmas.{SoFar}
use Rattle.dw_ranges.proofs.list_index.parts.Parts.read_from.Given as goal

abbrev pub invariant-loop-found : goal.invariant-loop-found
invariant-loop-found l = (first : Option ℕ)
    → SoFar (tables_shown l.fn.tables) (bases_shown l.fn.bases) l.self first l.cursor (ranges_from (tables_shown l.fn.tables) (bases_shown l.fn.bases) (base_shown first) l.fn.cursor)

abbrev pub decreases-loop-found : goal.decreases-loop-found
decreases-loop-found l = length l.cursor.left
