use Rattle.ticket_board.specs.Ring.Ends.{IsAskerOf}
use Rattle.board_tests.proofs.ring_threads.ask_all.Given as goal

abbrev pub invariant-loop : goal.invariant-loop
invariant-loop g l = record {
  asker : IsAskerOf l.ring l.asker;
}
