use Rattle.dw_ranges.specs.LinkedInside.{AreIndexed, claims_linked}
use Rattle.dw_ranges.proofs.linked.indexes_of.Given as goal

abbrev pub invariant-loop-group : goal.invariant-loop-group
invariant-loop-group l = AreIndexed l.group (claims_linked l.links) l.indexes.items
