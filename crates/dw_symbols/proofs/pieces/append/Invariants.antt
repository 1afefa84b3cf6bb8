use Rattle.std.proofs.Common.{◌≡◌, map}
use Rattle.std.specs.Vec.Iter.{into_iter_items, into_iter_len}
use Rattle.dw_symbols.specs.Answer.{piece_shown}
use Rattle.dw_symbols.specs.Pieces.{with_pieces}
use Rattle.dw_symbols.proofs.pieces.append.Given as goal

abbrev pub invariant-loop-piece : goal.invariant-loop-piece
invariant-loop-piece l =
    with_pieces (map piece_shown l.pieces.items) (map piece_shown (into_iter_items l.left))
    ≡ with_pieces (map piece_shown l.fn.pieces.items) (map piece_shown l.fn.part.pieces.items)

abbrev pub decreases-loop-piece : goal.decreases-loop-piece
decreases-loop-piece l = into_iter_len l.left
