use Rattle.std.proofs.Common.{◌≡◌}
use Rattle.ticket_board.specs.Ring.Takers.{IsTakerOf, HasEmptyHand}
use Rattle.board_tests.proofs.ring_threads.take_all.Given as goal

abbrev pub invariant-loop : goal.invariant-loop
invariant-loop g l = record {
  taker : IsTakerOf l.ring l.taker;
  empty : HasEmptyHand l.taker;
  key : g.S.Solver.key l.solver ≡ l.ring.key;
}
