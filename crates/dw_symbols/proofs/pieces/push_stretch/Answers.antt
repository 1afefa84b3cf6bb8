use Rattle.std.proofs.Common.{◌∙◌, map, ap}
use Rattle.dw_line.specs.Lines.{lines_shown}
use Rattle.dw_symbols.specs.Answer.{piece_shown}
use Rattle.dw_symbols.specs.Paths.{path_in}
use Rattle.dw_symbols.proofs.SpanLemmas.{adds_none, adds_one, placed}
use Rattle.dw_symbols.proofs.pieces.push_stretch.Goals as goal

pub returns-in_default-clause-pieces : goal.returns-in_default-clause-pieces
returns-in_default-clause-pieces c =
    adds_none (lines_shown c.args.lines.now) c.args.stretch (map piece_shown c.args.pieces.now.items) c.in_default.is c.law_of_more_pieces.ensures.none

pub returns-clause-pieces : goal.returns-clause-pieces
returns-clause-pieces c =
    let table = lines_shown c.args.lines.now in
    let stretch = c.args.stretch in
    let row = c.in-Some.row in
    let old = map piece_shown c.args.pieces.now.items in
    let path = ap (λ paths. path_in paths c.in_ok-place.place) c.deref.ensures.value ∙ c.in_ok-place.ensures.path in
    let place = placed table row stretch.begin stretch.end _ _ path c.location_at.ensures in
    rw (c.in_ok-push_piece.ensures) (adds_one table stretch row old _ c.in-Some.is place c.law_of_more_pieces.ensures.one)
