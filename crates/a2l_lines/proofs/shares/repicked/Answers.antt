use Rattle.std.proofs.Common.{ℕ, get_or, sym}
use Rattle.std.proofs.lemmas.List.{map_more}
use Rattle.a2l_lines.proofs.shares.repicked.Goals as goal

pub loop-pick-preserved : goal.loop-pick-preserved
loop-pick-preserved c =
    rw (c.in_ok-push.ensures.items, c.loop-pick.invariant) (sym (map_more (λ (pick : ℕ). get_or c.args.became.now pick 0) c.args.picks.now c.loop-pick.pick-index 0 c.loop-pick-test.true))
