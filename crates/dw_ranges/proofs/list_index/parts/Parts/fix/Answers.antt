use Rattle.std.proofs.Common.{map}
use Rattle.dw_index.specs.Owners.{least_owner}
use Rattle.dw_index.specs.Range.{pair_shown}
use Rattle.dw_ranges.proofs.MakesLemmas.{makes-fixed}
use Rattle.dw_ranges.proofs.list_index.parts.Parts.fix.Goals as goal

pub returns-clause-ranges : goal.returns-clause-ranges
returns-clause-ranges c base ranges small makes =
    rw (c.in_ok-push.ensures.items, c.in-Some.is)
    (makes-fixed c.args.self.now.fixed.items (least_owner (map pair_shown c.args.self.now.counted.items)) c.args.self.now.last_base c.in-Some.range base ranges small makes)
