use Rattle.std.proofs.Common.{◌≡◌, ◌∙◌, ◌-◌, ◌+◌, ℕ, List, Option, length, sym, ap, arith}
use Rattle.std.specs.Vec.{vec_len}
use Rattle.dw_symbols.specs.declared.answer.Piece.{Piece}
use Rattle.dw_symbols.specs.Answer.{piece_shown}
use Rattle.dw_symbols.specs.Paths.{path_in}
use Rattle.dw_symbols.specs.Pieces.{with_path}
use Rattle.dw_symbols.proofs.SpanLemmas.{grows, follows, first-one}
use Rattle.dw_symbols.proofs.pieces.push_piece.Goals as goal
use Rattle.dw_symbols.proofs.pieces.push_piece.Goals.{in-Some+else-joins, in_default}

pub returns-then-joins : goal.returns-then-joins
returns-then-joins c =
    let n = vec_len c.args.pieces.now - 1 in
    let size : length c.args.pieces.now.items ≡ n + 1 = omega (arith, c.in-Some.ensures.item.3.0) in
    grows c.args.pieces.now.items n c.in-Some.last.now (with_path (path_in c.args.paths.now c.args.place) (piece_shown c.args.next)) size c.in-Some.ensures.item.1 (sym c.joins.ensures ∙ c.if-joins.true)

pub returns : goal.returns
returns c =
    let old = c.args.pieces.now.items in
    let next = with_path (path_in c.args.paths.now c.args.place) (piece_shown c.args.next) in
    let other : Piece = record { begin = c.args.next.begin; end = c.args.next.end; location = record { path = c.in_ok-path.path; line = c.args.next.location.line; column = c.args.next.location.column } } in
    let is = ap (λ (path : Option (List ℕ)). with_path path (piece_shown c.args.next)) c.in_ok-path.ensures.path in
    elim c.match-last_mut.branch [
      | in-Some+else-joins w ↦
          let n = vec_len c.args.pieces.now - 1 in
          let size : length old ≡ n + 1 = omega (arith, w.in-Some.ensures.item.3.0) in
          rw (c.in_ok-push.ensures.items, w.pieces-is) (follows old n w.in-Some.last.now other next size w.in-Some.ensures.item.1 (sym w.joins.ensures ∙ w.if-joins.false) is)
      | in_default w ↦ rw (c.in_ok-push.ensures.items, w.pieces-is) (first-one old other next (omega (arith, w.in_default.ensures.item.3)) is)
    ]
