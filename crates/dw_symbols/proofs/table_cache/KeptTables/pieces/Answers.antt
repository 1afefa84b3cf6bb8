use Rattle.std.proofs.Common.{[], map, arith}
use Rattle.dw_model.specs.Section.{sections}
use Rattle.dw_model.specs.Pieces.{ArePieces, place}
use Rattle.dw_symbols.specs.Answer.{piece_shown}
use Rattle.dw_symbols.specs.Span.{fault_shown}
use Rattle.dw_symbols.proofs.SpanLemmas.{all_pieces, first_fault}
use Rattle.dw_symbols.proofs.table_cache.KeptTables.pieces.Goals as goal

pub returns-in-Err-clause-answer : goal.returns-in-Err-clause-answer
returns-in-Err-clause-answer c =
    let found = rw (c.in-Err.is) at c.in_ok-end.ensures.pieces in
    first_fault (sections c.args.image.now) c.args.span.low c.args.span.high found.0 found.4 (fault_shown (c.in-Err.unit, c.in-Err.code)) (omega (arith, c.loop-at.invariant.from, found.1)) found.2 (found.5 c.args.span.low c.loop-at.invariant.from c.loop-at.invariant.are) found.3 c.law_of_pieces.ensures.fault

pub returns-then-low-high-clause-answer : goal.returns-then-low-high-clause-answer
returns-then-low-high-clause-answer c =
    let low = c.args.span.low in
    let s = sections c.args.image.now in
    let none : ArePieces (place s) low low [] = record { order = omega arith; each = λ a up below. absurd (omega (arith, up, below)) } in
    all_pieces s low c.args.span.high low (map piece_shown c.new-pieces.result.items) (omega arith) (omega arith) c.if-low-high.true (rw (c.new-pieces.ensures.items) none) c.law_of_pieces.ensures.pieces

pub returns-clause-answer : goal.returns-clause-answer
returns-clause-answer c =
    all_pieces (sections c.args.image.now) c.args.span.low c.args.span.high c.loop-at.at (map piece_shown c.loop-at.pieces.items) c.loop-at.invariant.from c.loop-at.invariant.within c.loop-at-test.false c.loop-at.invariant.are c.law_of_pieces.ensures.pieces
