use Rattle.std.proofs.Common.{arith}
use Rattle.std.proofs.lemmas.Bool.Decides.{nat_tests}
use Rattle.dw_index.proofs.SegmentLemmas.{passes}
use Rattle.dw_index.proofs.search.is_passed.Goals as goal

pub returns-then-count-segments-2 : goal.returns-then-count-segments-2
returns-then-count-segments-2 g c = grind (arith, nat_tests, passes c.args.segments.now c.args.a c.args.count c.requires)

pub returns-else-count-segments-2 : goal.returns-else-count-segments-2
returns-else-count-segments-2 g c = grind (arith, nat_tests, passes c.args.segments.now c.args.a c.args.count c.requires)
