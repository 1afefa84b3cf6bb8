use Rattle.std.proofs.Common.{◌≡◌, ℕ, ◌+◌, ◌-◌, length}
use Rattle.dw_ranges.specs.LinksInside.{noted}
use Rattle.dw_ranges.proofs.links.reach.Given as goal

abbrev pub invariant-loop-lasts : goal.invariant-loop-lasts
invariant-loop-lasts l =
    (number : ℕ) → noted number l.lasts.items ≡ noted number l.initial.lasts.items

abbrev pub decreases-loop-lasts : goal.decreases-loop-lasts
decreases-loop-lasts l = l.group + 1 - length l.lasts.items
