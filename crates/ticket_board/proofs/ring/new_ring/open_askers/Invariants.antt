use Rattle.std.proofs.Common.{◌≡◌, ◌≤◌}
use Rattle.std.specs.Vec.{vec_len, vec_capacity}
use Rattle.ticket_board.specs.Ring.Opened.{IsDesk, askers_from}
use Rattle.ticket_board.proofs.ring.new_ring.open_askers.Given as goal

abbrev pub invariant-loop-sender : goal.invariant-loop-sender
invariant-loop-sender g l = record {
  desk : IsDesk g.S.Solver.meaning l.ring l.sender l.desk.table_id l.desk.me;
  len : vec_len l.askers ≡ l.sender;
  room : l.sender-end ≤ vec_capacity l.askers;
  made : l.askers.items ≡ askers_from l.ring 0 l.sender;
}
