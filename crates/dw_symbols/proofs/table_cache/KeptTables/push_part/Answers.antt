use Rattle.std.proofs.Common.{map, sym}
use Rattle.dw_symbols.specs.Answer.{piece_shown}
use Rattle.dw_symbols.proofs.PartLemmas.{adds_fault, adds_none, adds_unit}
use Rattle.dw_symbols.proofs.table_cache.KeptTables.push_part.Goals as goal

pub returns-in_default-clause-pieces : goal.returns-in_default-clause-pieces
returns-in_default-clause-pieces c =
    adds_none c.args.image.now c.args.part c.requires.part (map piece_shown c.args.pieces.now.items) (sym c.in_default.is) c.law_of_more_pieces.ensures.none

pub returns-in-Some-2-clause-pieces : goal.returns-in-Some-2-clause-pieces
returns-in-Some-2-clause-pieces c =
    adds_fault c.args.image.now c.args.part c.requires.part c.in-Some.unit c.in-Some.is (map piece_shown c.args.pieces.now.items) (map piece_shown c.push_pieces.new.pieces.items) c.offset.result c.in-Some-2.code
    (rw (c.in-Some-2.is) at c.in_ok-code.ensures.pieces) c.offset.ensures

pub returns-in-None-clause-pieces : goal.returns-in-None-clause-pieces
returns-in-None-clause-pieces c =
    adds_unit c.args.image.now c.args.part c.requires.part c.in-Some.unit c.in-Some.is (map piece_shown c.args.pieces.now.items) (map piece_shown c.push_pieces.new.pieces.items) (rw (c.in-None.is) at c.in_ok-code.ensures.pieces)
