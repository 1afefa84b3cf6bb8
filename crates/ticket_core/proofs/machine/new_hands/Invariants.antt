use Rattle.std.proofs.Common.{◌≡◌, ◌≤◌, None, replicate, vec_len, vec_capacity}
use Rattle.ticket_core.proofs.machine.new_hands.Given as goal

abbrev pub invariant-loop : goal.invariant-loop
invariant-loop l = record {
  empty_so_far : l.hands.items ≡ replicate l.counter None;
  count : vec_len l.hands ≡ l.counter;
  room : l.count ≤ vec_capacity l.hands;
}
