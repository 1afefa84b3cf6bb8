use Rattle.std.proofs.Common.{◌-◌, ◌^◌}
use Rattle.dw_ranges.specs.ListIndex.{listed_from}
use Rattle.dw_ranges.specs.Window.{PiecesTo}
use Rattle.dw_ranges.proofs.window.draft.Draft.add_indexed.Given as goal

abbrev pub invariant-loop-base : goal.invariant-loop-base
invariant-loop-base l = PiecesTo (listed_from l.index l.base) l.owner l.begin l.fn.self l.self

abbrev pub decreases-loop-base : goal.decreases-loop-base
decreases-loop-base l = 2 ^ 64 - l.begin
