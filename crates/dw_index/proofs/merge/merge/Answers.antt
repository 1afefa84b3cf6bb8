use Rattle.std.proofs.Common.{refl}
use Rattle.dw_index.proofs.MergeLemmas.{stays, grows, same_owner, other_owner}
use Rattle.dw_index.proofs.merge.merge.Goals as goal

pub loop-at-preserved-then-eq : goal.loop-at-preserved-then-eq
loop-at-preserved-then-eq c =
    let same = same_owner c.lesser-owner.result c.lesser-before.result c.if-eq.ensures in
    rw (c.past-left.ensures.owner, c.past-left.ensures.rest, c.past-right.ensures.owner, c.past-right.ensures.rest) (stays _ _ _ _ _ _ _ _ c.loop-at.invariant c.in-Some.ensures (cc))

pub loop-at-preserved : goal.loop-at-preserved
loop-at-preserved c =
    let other = other_owner c.lesser-owner.result c.lesser-before.result c.if-eq.ensures in
    rw (c.past-left.ensures.owner, c.past-left.ensures.rest, c.past-right.ensures.owner, c.past-right.ensures.rest, c.in_ok-push.ensures.items)
    (grows _ _ _ _ _ _ _ _ c.loop-at.invariant c.in-Some.ensures (record { begin = c.in-Some.at; owner = c.lesser-owner.result }) refl (cc) (λ e. other (cc)))
