use Rattle.std.proofs.Common.{◌≡◌, map}
use Rattle.dw_index.specs.Owners.{least, least_owner}
use Rattle.dw_index.specs.Range.{pair_shown}
use Rattle.dw_ranges.specs.Claims.{in_group}
use Rattle.dw_ranges.specs.LinkedInside.{claims_linked}
use Rattle.dw_ranges.proofs.linked.find_linked.Given as goal

abbrev pub invariant-loop-pair : goal.invariant-loop-pair
invariant-loop-pair l =
    least l.found (least_owner (map pair_shown l.pair-iterator) l.a) ≡ least_owner (in_group l.group (claims_linked l.links)) l.a
