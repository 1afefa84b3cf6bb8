use Rattle.std.proofs.Common.{map}
use Rattle.dw_symbols.specs.Answer.{piece_shown}
use Rattle.dw_symbols.proofs.SpanLemmas.{unit_adds, unit_adds_none}
use Rattle.dw_symbols.proofs.unit_answers.push_lines.Goals as goal

pub returns-in_default : goal.returns-in_default
returns-in_default c = λ s unit has.
    unit_adds_none s unit c.args.span (map piece_shown c.args.pieces.now.items) c.requires (rw (c.in-Ok.is, c.in_default.is) at has) c.law_of_more_pieces.ensures.none

pub returns : goal.returns
returns c = λ s unit has.
    unit_adds s unit c.args.span c.in-Some.table (map piece_shown c.args.pieces.now.items) (map piece_shown c.push_rows.new.pieces.items) (rw (c.in-Ok.is, c.in-Some.is) at has) c.in_ok-push_rows.ensures
