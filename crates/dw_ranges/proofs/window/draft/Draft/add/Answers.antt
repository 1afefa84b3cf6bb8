use Rattle.std.proofs.Common.{arith}
use Rattle.dw_ranges.proofs.WindowLemmas.{one-added, all-added}
use Rattle.dw_ranges.proofs.window.draft.Draft.add.Goals as goal

pub loop-range-preserved : goal.loop-range-preserved
loop-range-preserved c =
    one-added c.args.ranges.now c.args.owner c.loop-range.range-index c.args.self.now c.loop-range.self c.push.new.self c.loop-range-test.true c.loop-range.invariant c.in_ok-push.ensures

pub returns : goal.returns
returns c =
    all-added c.args.ranges.now c.args.owner c.loop-range.range-index c.args.self.now c.loop-range.self (omega (arith, c.loop-range-test.false)) c.loop-range.invariant
