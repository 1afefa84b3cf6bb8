use Rattle.std.proofs.Common.{◌≡◌, ◌+◌, length, take, get_or}
use Rattle.std.specs.List.{All}
use Rattle.a2l_lines.proofs.OrderLemmas.{IsMoved}
use Rattle.a2l_lines.proofs.order.picks_in.Given as goal

abbrev pub invariant-loop-i : goal.invariant-loop-i
invariant-loop-i l = record {
  len : length l.picks.items ≡ length l.queries + 1;
  none : get_or l.picks.items 0 0 ≡ 0;
  moved : All (λ pair. IsMoved l.queries l.order l.picks.items pair.1) (take l.i l.order);
}
