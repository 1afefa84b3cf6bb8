use Rattle.std.proofs.Common.{◌≡◌, ◌≤◌, ◌+◌, ◌++◌, length, map, take}
use Rattle.dw_index.specs.Range.{pair_shown, range_shown}
use Rattle.dw_ranges.specs.Owned.{owned}
use Rattle.dw_ranges.proofs.claims.push_ranges.Given as goal

abbrev pub invariant-loop-range : goal.invariant-loop-range
invariant-loop-range l =
    (map pair_shown l.pairs.items ≡ map pair_shown l.initial.pairs.items ++ owned (map range_shown (take l.range-index l.ranges)) l.owner)
    × (length l.pairs.items ≤ length l.initial.pairs.items + l.range-index)
