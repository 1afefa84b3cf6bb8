use Rattle.std.proofs.Common.{◌≡◌, take}
use Rattle.a2l_lines.specs.Order.{asked_in}
use Rattle.a2l_lines.proofs.order.in_order.Given as goal

abbrev pub invariant-loop-place : goal.invariant-loop-place
invariant-loop-place l = l.asked.items ≡ asked_in l.queries (take l.place-index l.order)
