use Rattle.std.proofs.Common.{◌<◌, sym, subst}
use Rattle.ticket_core.specs.declared.shape.Shape.{Shape}
use Rattle.ticket_board.specs.Ring.Ends.{AskerState, AskerOccurs}
use Rattle.ticket_board.proofs.RingAsker.{asker-occurs, occurs-served}
use Rattle.ticket_board.proofs.ring.asker.Asker.law_of_asker.Goals as goal

pub returns : goal.returns
returns g c =
    let self = c.self in
    let now : AskerState = c.args.self.now in
    let mine = self.inside in
    let meaning = g.S.Solver.meaning in
    let occurs : AskerOccurs meaning now = subst (AskerOccurs meaning) self.view_is
    (asker-occurs meaning mine.sender mine.asked mine.received mine.found mine.shape mine.seat.table_id mine.seat.me self.invariant) in
    let below = subst (λ (x : AskerState). x.sender < x.shape.senders) self.view_is
    (subst (λ (x : Shape). mine.sender < x.senders) (sym self.invariant.shape_is) self.invariant.below) in
    record {
      occurs = occurs;
      right = occurs-served meaning now below occurs (c.law_of_board.ensures.served meaning);
    }
