use Rattle.ticket_board.specs.Seats.{IsClientOf, IsWorkerOf}
use Rattle.board_tests.proofs.SeatLemmas.{each_last}
use Rattle.board_tests.proofs.board_desk.open_last.Goals as goal

pub returns-clause-client : goal.returns-clause-client
returns-clause-client g c =
    each_last (IsClientOf c.in_ok-board.board) c.in_ok-board.clients.items _ c.in-Some.client c.in_ok-board.ensures.client_seats c.in-Some.ensures.items

pub returns-clause-worker : goal.returns-clause-worker
returns-clause-worker g c =
    each_last (IsWorkerOf c.in_ok-board.board) c.in_ok-board.workers.items _ c.in-Some-pop.worker c.in_ok-board.ensures.worker_seats c.in-Some-pop.ensures.items
