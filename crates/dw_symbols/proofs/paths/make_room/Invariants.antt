use Rattle.std.proofs.Common.{◌-◌, ◌+◌, length}
use Rattle.dw_model.specs.Answer.{Lines}
use Rattle.dw_symbols.specs.Paths.{ArePathsOf}
use Rattle.dw_symbols.proofs.paths.make_room.Given as goal

abbrev pub invariant-loop-paths : goal.invariant-loop-paths
invariant-loop-paths l = (table : Lines) → ArePathsOf table l.fn.paths.items → ArePathsOf table l.paths.items

abbrev pub decreases-loop-paths : goal.decreases-loop-paths
decreases-loop-paths l = l.place + 1 - length l.paths.items
