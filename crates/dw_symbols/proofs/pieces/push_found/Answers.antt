use Rattle.std.proofs.Common.{◌≡◌, ◌∙◌, ◌-◌, ◌+◌, length, refl, sym, arith}
use Rattle.std.specs.Vec.{vec_len}
use Rattle.dw_symbols.specs.Answer.{piece_shown}
use Rattle.dw_symbols.proofs.SpanLemmas.{grows, follows, first-one}
use Rattle.dw_symbols.proofs.pieces.push_found.Goals as goal
use Rattle.dw_symbols.proofs.pieces.push_found.Goals.{in-Some+else-joins_found, in_default}

pub returns-then-joins_found : goal.returns-then-joins_found
returns-then-joins_found c =
    let n = vec_len c.args.pieces.now - 1 in
    let size : length c.args.pieces.now.items ≡ n + 1 = omega (arith, c.in-Some.ensures.item.3.0) in
    grows c.args.pieces.now.items n c.in-Some.last.now (piece_shown c.args.next) size c.in-Some.ensures.item.1 (sym c.joins_found.ensures ∙ c.if-joins_found.true)

pub returns : goal.returns
returns c =
    let old = c.args.pieces.now.items in
    let next = piece_shown c.args.next in
    elim c.match-last_mut.branch [
      | in-Some+else-joins_found w ↦
          let n = vec_len c.args.pieces.now - 1 in
          let size : length old ≡ n + 1 = omega (arith, w.in-Some.ensures.item.3.0) in
          rw (c.in_ok-push.ensures.items, w.pieces-is) (follows old n w.in-Some.last.now c.args.next next size w.in-Some.ensures.item.1 (sym w.joins_found.ensures ∙ w.if-joins_found.false) refl)
      | in_default w ↦ rw (c.in_ok-push.ensures.items, w.pieces-is) (first-one old c.args.next next (omega (arith, w.in_default.ensures.item.3)) refl)
    ]
