use Rattle.std.proofs.Common.{◌≡◌, ◌≤◌, ◌++◌, true, drop, length, map}
use Rattle.ticket_board.specs.Pool.{every}
use Rattle.ticket_board.proofs.pool.sender_task.ask_all.Given as goal

abbrev pub invariant-loop : goal.invariant-loop
invariant-loop g l = record {
  seat : l.client.seat ≡ l.fn.sending.client.seat;
  asked : l.client.asked ++ every l.task.shape.senders 0 (drop l.next l.task.queries.asked.now) ≡ every l.task.shape.senders l.sender l.task.queries.asked.now;
  lane : map g.S.Solver.shown l.lane.items ≡ l.client.received;
  closed : l.client.closed ≡ true → length l.task.queries.asked.now ≤ l.next;
}
