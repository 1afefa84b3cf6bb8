use Rattle.std.proofs.Common.{arith, map}
use Rattle.dw_index.specs.Owners.{least_owner}
use Rattle.dw_index.specs.Range.{pair_shown}
use Rattle.dw_ranges.proofs.MakesLemmas.{between-some, makes-counted}
use Rattle.dw_ranges.proofs.list_index.parts.Parts.count.Goals as goal

pub returns-clause-ranges : goal.returns-clause-ranges
returns-clause-ranges c base ranges small makes =
    let some = between-some c.args.start c.args.end c.range_between.result c.in-Some.range c.in-Some.is c.range_between.ensures in
    rw (c.in_ok-push.ensures.items)
    (makes-counted c.args.start c.args.end base some.0 (omega (arith, c.ranges.end.fits)) small (least_owner (map pair_shown c.args.self.now.fixed.items)) c.args.self.now.counted.items c.args.self.now.last_base c.later-self.result c.in-Some.range ranges some.1 c.later-self.ensures makes)
