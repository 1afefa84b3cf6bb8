use Rattle.std.proofs.Common.{subst}
use Rattle.ticket_board.specs.Ring.Takers.{TakerOccurs}
use Rattle.ticket_board.proofs.RingTaker.{taker-occurs}
use Rattle.ticket_board.proofs.ring.taker.Taker.law_of_taker.Goals as goal

pub returns : goal.returns
returns g c =
    let self = c.self in
    let mine = self.inside in
    let meaning = g.S.Solver.meaning in
    record {
      occurs = subst (TakerOccurs meaning) self.view_is
          (taker-occurs meaning mine.hand mine.shape mine.seat.table_id mine.seat.me self.invariant (c.law_of_board.ensures.done meaning));
    }
