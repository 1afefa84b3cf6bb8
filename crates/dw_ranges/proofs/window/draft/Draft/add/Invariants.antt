use Rattle.dw_ranges.proofs.WindowLemmas.{Added}
use Rattle.dw_ranges.proofs.window.draft.Draft.add.Given as goal

abbrev pub invariant-loop-range : goal.invariant-loop-range
invariant-loop-range l = Added l.fn.ranges l.owner l.range-index l.fn.self l.self
