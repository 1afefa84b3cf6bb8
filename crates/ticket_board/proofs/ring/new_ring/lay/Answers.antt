use Rattle.std.proofs.Common.{ℕ, List, [], refl, sym, ◌∙◌, subst}
use Rattle.ticket_core.specs.declared.shape.Shape.{Shape}
use Rattle.ticket_board.specs.Ring.Views.{stamped, opener}
use Rattle.ticket_board.specs.Ring.Opening.{AreFree}
use Rattle.ticket_board.specs.Ring.Moves.{Occurs}
use Rattle.ticket_board.proofs.RingTable.{opening-holds}
use Rattle.ticket_board.proofs.ring.new_ring.lay.Goals as goal

pub vacant-requires : goal.vacant-requires
vacant-requires g c =
    opening-holds g.S.Solver.shown g.S.Solver.meaning c.args.shape c.args.key.now c.as_slice.result.now _ c.requires
    (subst (AreFree c.args.shape) (sym c.as_slice.ensures.value) c.in_ok-words.ensures) refl

pub returns-clause-desk : goal.returns-clause-desk
returns-clause-desk g c =
    let made = c.in_ok-table.ensures in
    let terms = sym made.5 in
    let first : Occurs g.S.Solver.meaning (opener c.args.shape c.args.key.now 0) =
    (c.in_ok-words.words.items, [], (c.requires, c.in_ok-words.ensures), refl) in
    record {
      table_is = made.2;
      knows = made.4 ∙ (λ i. (stamped (opener (terms i).shape (terms i).key.now 0) 0, []));
      occurs = subst (λ (x : Shape × List ℕ). Occurs g.S.Solver.meaning (opener x.0 x.1 0)) (λ i. ((terms i).shape, (terms i).key.now)) first;
    }
