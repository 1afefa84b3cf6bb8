use Rattle.dw_index.proofs.IndexLemmas.{index_of_empty, index_of_one}
use Rattle.dw_index.proofs.index.segments_of_range.Goals as goal

pub returns-then-range : goal.returns-then-range
returns-then-range c =
    rw (c.new.ensures.items) (index_of_empty c.args.range.begin c.args.range.end c.args.owner c.if-range.true)

pub returns : goal.returns
returns c =
    rw (c.in_ok-segments.ensures.items) (index_of_one c.args.range.begin c.args.range.end c.args.owner c.if-range.false)
