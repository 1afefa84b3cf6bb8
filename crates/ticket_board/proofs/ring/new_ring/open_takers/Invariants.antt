use Rattle.std.proofs.Common.{◌≡◌, ◌+◌, ◌≤◌}
use Rattle.std.specs.Vec.{vec_len, vec_capacity}
use Rattle.ticket_board.specs.Ring.Opened.{IsDesk, takers_from}
use Rattle.ticket_board.proofs.ring.new_ring.open_takers.Given as goal

abbrev pub invariant-loop : goal.invariant-loop
invariant-loop g l = record {
  desk : IsDesk g.S.Solver.meaning l.ring (l.ring.shape.senders + l.counter) l.desk.table_id l.desk.me;
  len : vec_len l.takers ≡ l.counter;
  room : l.shape.workers ≤ vec_capacity l.takers;
  made : l.takers.items ≡ takers_from l.ring 0 l.counter;
}
