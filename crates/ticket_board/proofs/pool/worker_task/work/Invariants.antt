use Rattle.std.proofs.Common.{◌≡◌}
use Rattle.ticket_board.proofs.pool.worker_task.work.Given as goal

abbrev pub invariant-loop : goal.invariant-loop
invariant-loop g l = g.S.Solver.key l.station.solver ≡ l.station.pool.now.board.key
