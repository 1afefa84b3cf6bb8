use Rattle.std.proofs.Common.{◌≡◌, ℕ, suc, ◌+◌, ◌<◌, [], sym, ◌∙◌, ap, subst, arith}
use Rattle.ticket_board.specs.Ring.Views.{Stamped}
use Rattle.ticket_board.specs.Ring.Moves.{Occurs}
use Rattle.ticket_board.specs.Ring.Ends.{RingState}
use Rattle.ticket_board.specs.Ring.Opened.{IsDesk}
use Rattle.ticket_board.specs.Ring.Rule.{cut_of, left_after, cut_from}
use Rattle.ticket_board.proofs.RingTable.{desk-splits, some-words}
use Rattle.ticket_board.proofs.RingMoves.{cut-occurs}
use Rattle.ticket_board.proofs.ring.new_ring.cut_off.Goals as goal

pub split_seat-requires : goal.split_seat-requires
split_seat-requires g c =
    let desk = c.args.desk.now in
    let cut : ℕ = cut_of desk.me.0.view.role in
    let shared = c.ring.inside.table.shared in
    let ring : RingState = record { shape = shared.key.shape; key = shared.key.key.now; table = shared.table_id } in (
      c.requires.desk.table_is ∙ sym (ap (λ (x : RingState). x.table) c.ring.view_is),
      subst (λ (n : ℕ). 0 < n) (sym c.ring.invariant.1) (some-words ring.shape c.ring.invariant.0),
      desk-splits g.S.Solver.shown g.S.Solver.meaning ring desk.id desk.table_id desk.me
          (subst (λ (x : RingState). IsDesk g.S.Solver.meaning x cut desk.table_id desk.me) (sym c.ring.view_is) c.requires.desk)
          (subst (λ (x : RingState). cut < x.shape.senders + x.shape.workers) (sym c.ring.view_is) c.requires.left),
    )

pub returns-clause-desk : goal.returns-clause-desk
returns-clause-desk g c =
    let was = c.requires.desk.knows in
    let cut : ℕ = cut_of c.args.desk.now.me.0.view.role in
    let next : suc cut ≡ cut + 1 = omega arith in
    subst (λ (n : ℕ). IsDesk g.S.Solver.meaning c.args.ring.now n c.split_seat.new.seat.table_id c.split_seat.new.seat.me) next
    (record {
      table_is = c.split_seat.ensures.0 ∙ c.requires.desk.table_is;
      knows = c.split_seat.ensures.2 ∙ (λ i. (left_after (was i).0, (was i).1));
      occurs = (cut-occurs g.S.Solver.meaning c.args.ring.now.shape c.args.ring.now.key cut c.requires.left c.requires.desk.occurs).0;
    })

pub returns-clause-occurs : goal.returns-clause-occurs
returns-clause-occurs g c =
    let was = c.requires.desk.knows in
    let is = c.split_seat.ensures.4 ∙ (λ i. (cut_from (was i).0, [])) in
    subst (λ (x : Stamped). Occurs g.S.Solver.meaning x.view) (sym (ap (λ x. x.0) is))
    (cut-occurs g.S.Solver.meaning c.args.ring.now.shape c.args.ring.now.key (cut_of c.args.desk.now.me.0.view.role) c.requires.left c.requires.desk.occurs).1
