use Rattle.std.proofs.Common.{◌≡◌, ◌++◌, map, take}
use Rattle.std.specs.Prelude.{flat_map}
use Rattle.dw_model.specs.Output.{piece_line}
use Rattle.dw_symbols.specs.Answer.{piece_shown}
use Rattle.a2l_lines.proofs.text.push_pieces.Given as goal

abbrev pub invariant-loop-piece : goal.invariant-loop-piece
invariant-loop-piece l = l.text.items ≡ l.fn.text.items ++ flat_map piece_line (map piece_shown (take l.piece-index l.pieces))
