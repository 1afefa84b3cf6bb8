use Rattle.std.proofs.Common.{◌-◌, None, arith}
use Rattle.dw_index.proofs.SegmentLemmas.{no_segment, none_passed, last_passed}
use Rattle.dw_index.proofs.search.owner_of.Goals as goal

pub returns-then-passed-eq0 : goal.returns-then-passed-eq0
returns-then-passed-eq0 c = λ a is. grind (arith, none_passed c.args.segments.now None a)

pub returns : goal.returns
returns c = λ a is. grind (arith, last_passed c.args.segments.now None a (c.args.passed - 1) no_segment)
