use Rattle.std.proofs.Common.{◌≡◌, ◌++◌, length, reverse}
use Rattle.dw_ranges.proofs.links.Links.of.Given as goal

abbrev pub invariant-loop-one : goal.invariant-loop-one
invariant-loop-one g l = l.links ++ reverse l.items.items ≡ reverse l.fn.items.items

abbrev pub decreases-loop-one : goal.decreases-loop-one
decreases-loop-one g l = length l.items.items
