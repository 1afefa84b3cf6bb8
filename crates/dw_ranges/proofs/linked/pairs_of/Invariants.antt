use Rattle.std.proofs.Common.{◌≡◌, ◌++◌, reverse}
use Rattle.dw_ranges.specs.Claims.{in_group}
use Rattle.dw_ranges.proofs.linked.pairs_of.Given as goal

abbrev pub invariant-loop-pair : goal.invariant-loop-pair
invariant-loop-pair l = l.pairs.items ++ l.pair-iterator ≡ reverse (in_group l.group l.links)
