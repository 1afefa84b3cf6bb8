use Rattle.std.proofs.Common.{map, take}
use Rattle.dw_index.specs.Range.{pair_shown}
use Rattle.dw_index.specs.Run.{IsRun}
use Rattle.dw_index.proofs.run.run_of.Given as goal

abbrev pub invariant-loop-range : goal.invariant-loop-range
invariant-loop-range l =
    IsRun (map pair_shown (take l.range-index l.fn.pairs)) l.run.segments.items l.run.end l.run.owner
