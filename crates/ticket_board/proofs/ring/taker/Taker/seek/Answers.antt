use Rattle.std.specs.Prelude.{MatchBool}
use Rattle.std.proofs.Common.{◌≡◌, ◌*◌, ◌≤◌, IsSome, sym, ap, ◌∙◌, subst, arith}
use Rattle.ticket_core.specs.declared.shape.Shape.{Shape}
use Rattle.ticket_board.specs.Ring.Takers.{MissedAll}
use Rattle.ticket_board.proofs.RingMissed.{round-found}
use Rattle.ticket_board.proofs.ring.taker.Taker.seek.Goals.{then-self-cells, else-self-cells}
use Rattle.ticket_board.proofs.ring.taker.Taker.seek.Goals as goal

pub returns-clause-found : goal.returns-clause-found
returns-clause-found g c =
    let shape = c.self.inside.shape in
    let same : shape ≡ c.args.ring.now.shape = sym c.self.invariant.shape_is ∙ ap (λ taker. taker.shape) c.self.view_is ∙ c.requires.ring.shape_is in
    let first = rw c.if-try_cells.false at c.try_cells.ensures.found in
    let order : c.if-self-cells.begin ≤ shape.senders * shape.window = elim c.if-self-cells.branch [
      | then-self-cells w ↦ omega (arith, w.begin-is, w.if-self-cells)
      | else-self-cells w ↦ omega (arith, w.begin-is)
    ] in
    let all = round-found c.if-self-cells.begin (shape.senders * shape.window) c.try_cells-2.result c.args.self.now.working c.try_cells.new.self.working
    c.try_cells-2.new.self.working order first c.try_cells-2.ensures.found in
    subst (λ (x : Shape). MatchBool c.try_cells-2.result (IsSome c.try_cells-2.new.self.working.hand) (MissedAll x c.args.self.now.working c.try_cells-2.new.self.working)) same all
