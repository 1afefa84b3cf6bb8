use Rattle.dw_ranges.specs.ListIndex.{listed_from}
use Rattle.dw_ranges.proofs.WindowLemmas.{pieces-all}
use Rattle.dw_ranges.proofs.window.draft.Draft.add_indexed.Goals as goal

pub returns : goal.returns
returns c = pieces-all (listed_from c.args.index.now c.args.base) c.args.owner c.loop-base.begin c.args.self.now c.loop-base.self (c.reaches.ensures.end c.loop-base-test.false) c.loop-base.invariant
