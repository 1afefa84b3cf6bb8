use Rattle.std.proofs.Common.{refl, subst}
use Rattle.ticket_board.specs.Seats.{WorkerOccurs}
use Rattle.ticket_board.proofs.worker.Worker.law_of_worker.Goals as goal

pub returns : goal.returns
returns g c =
    record {
      occurs = subst (WorkerOccurs g.S.Solver.meaning) c.self.view_is
          (c.self.inside.taker.working, c.law_of_taker.ensures.occurs, refl, refl, refl, refl);
    }
