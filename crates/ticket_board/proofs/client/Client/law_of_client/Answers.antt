use Rattle.std.proofs.Common.{refl, subst}
use Rattle.ticket_board.specs.Seats.{ClientOccurs}
use Rattle.ticket_board.proofs.client.Client.law_of_client.Goals as goal

pub returns-clause-occurs : goal.returns-clause-occurs
returns-clause-occurs g c =
    subst (ClientOccurs g.S.Solver.meaning) c.self.view_is (c.self.inside.asker.asking, c.law_of_asker.ensures.occurs, refl, refl, refl, refl)
