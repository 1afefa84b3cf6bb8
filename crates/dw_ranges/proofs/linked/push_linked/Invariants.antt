use Rattle.std.proofs.Common.{◌≡◌, ◌≤◌, ◌+◌, ◌++◌, length, map, take}
use Rattle.dw_index.specs.Range.{range_shown}
use Rattle.dw_ranges.specs.Owned.{owned}
use Rattle.dw_ranges.specs.Claims.{claims_in}
use Rattle.dw_ranges.specs.LinkedInside.{claims_linked}
use Rattle.dw_ranges.proofs.linked.push_linked.Given as goal

abbrev pub invariant-loop-range : goal.invariant-loop-range
invariant-loop-range l =
    (claims_linked l.links ≡ claims_linked l.initial.links ++ claims_in l.group (owned (map range_shown (take l.range-index l.ranges)) l.owner))
    × (length l.links ≤ length l.initial.links + l.range-index)
