use Rattle.std.proofs.Common.{◌≡◌, ◌≤◌, ◌-◌, ◌++◌, true, drop, length}
use Rattle.ticket_board.specs.Pool.{every}
use Rattle.ticket_board.proofs.pool.sender_task.ask_on.Given as goal

abbrev pub invariant-loop-next : goal.invariant-loop-next
invariant-loop-next g l = record {
  seat : l.client.seat ≡ l.fn.client.seat;
  asked : l.client.asked ++ every l.step 0 (drop l.next l.queries) ≡ l.fn.client.asked ++ every l.step 0 (drop l.fn.next l.queries);
  received : l.client.received ≡ l.fn.client.received;
  closed : l.client.closed ≡ true → length l.queries ≤ l.next;
}

abbrev pub decreases-loop-next : goal.decreases-loop-next
decreases-loop-next g l = length l.queries - l.next
