use Rattle.std.proofs.Common.{◌<◌, sym, ◌∙◌, subst}
use Rattle.ticket_board.specs.Ring.Views.{next_asked, next_received}
use Rattle.ticket_board.specs.Ring.Ends.{AskerState}
use Rattle.ticket_board.proofs.RingAsker.{found-outstanding, looked-outstanding}
use Rattle.ticket_board.proofs.ring.asker.Asker.ready.Goals as goal

pub returns-then-self-clause-outstanding : goal.returns-then-self-clause-outstanding
returns-then-self-clause-outstanding g c found =
    let mine = c.self.inside in
    subst (λ (it : AskerState). next_received it.asking < next_asked it.asking) c.self.view_is
    (found-outstanding g.S.Solver.meaning mine.seat.me.0.view c.self.invariant.asks c.self.invariant.occurs (sym c.self.invariant.found_is ∙ c.if-self.true))

pub returns-clause-outstanding : goal.returns-clause-outstanding
returns-clause-outstanding g c found =
    let mine = c.self.inside in
    let look = c.look_next-word in
    subst (λ (it : AskerState). next_received it.asking < next_asked it.asking) c.self.view_is
    (looked-outstanding g.S.Solver.meaning mine.seat.me.0.view look.new.seat.me.0.view look.result mine.received
    look.ensures.told.0 look.ensures.occurs c.self.invariant.received_is found)
