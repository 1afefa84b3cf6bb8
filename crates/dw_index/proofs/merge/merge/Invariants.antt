use Rattle.std.proofs.Common.{◌+◌, length}
use Rattle.dw_index.specs.Owners.{least}
use Rattle.dw_index.specs.Segments.{owner_at}
use Rattle.dw_index.proofs.MergeLemmas.{Merging}
use Rattle.dw_index.proofs.merge.merge.Given as goal

abbrev pub invariant-loop-at : goal.invariant-loop-at
invariant-loop-at l =
    Merging (λ a. least (owner_at l.fn.first a) (owner_at l.fn.second a)) l.left.owner l.right.owner l.left.rest.now l.right.rest.now l.merged.items (length l.fn.first + length l.fn.second)

abbrev pub decreases-loop-at : goal.decreases-loop-at
decreases-loop-at l = length l.left.rest.now + length l.right.rest.now
