use Rattle.std.proofs.Common.{◌≡◌, map, take, get_or}
use Rattle.a2l_lines.proofs.shares.repicked.Given as goal

abbrev pub invariant-loop-pick : goal.invariant-loop-pick
invariant-loop-pick l = l.repicked.items ≡ map (λ pick. get_or l.became pick 0) (take l.pick-index l.picks)
