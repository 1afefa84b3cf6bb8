-- Answers as the definitions have them.
use Rattle.std.specs.Prelude.{ℕ, map, option_map}
use Rattle.dw_model.specs.Answer as model
use Rattle.dw_model.specs.Faults.{entry_fault, depth_fault, ranges_fault}
use Rattle.dw_symbols.specs.declared.answer.Location.{Location}
use Rattle.dw_symbols.specs.declared.answer.Frame.{Frame}
use Rattle.dw_symbols.specs.declared.answer.UnitFault.{UnitFault}
use Rattle.dw_symbols.specs.declared.answer.UnitFault.TheVariants.{Entry, Depth, Ranges, Line}
use Rattle.dw_symbols.specs.declared.answer.Piece.{Piece}
use Rattle.dw_symbols.specs.declared.answer.Answer.{Answer}
use Rattle.dw_symbols.specs.declared.answer.Answer.TheVariants.{NotCovered, Fault, Found, Pieces}

abbrev pub location_shown : Location → model.Location
location_shown location = record {
  path = option_map (λ path. path.items) location.path;
  line = location.line;
  column = location.column;
}

abbrev pub frame_shown : Frame → model.Frame
frame_shown frame = record {
  name = option_map (λ name. name.now) frame.name;
  location = location_shown frame.location;
}

abbrev pub code_shown : UnitFault → model.Code
code_shown Entry = model.tree_fault entry_fault
code_shown Depth = model.tree_fault depth_fault
code_shown Ranges = model.tree_fault ranges_fault
code_shown Line = model.line_fault

-- the number of each fault of a unit
abbrev pub number_of : UnitFault → ℕ
number_of Entry = 1
number_of Depth = 2
number_of Ranges = 3
number_of Line = 4

abbrev pub piece_shown : Piece → model.Piece
piece_shown piece = record { begin = piece.begin; end = piece.end; location = location_shown piece.location }

abbrev pub answer_shown : Answer → model.Answer
answer_shown NotCovered = model.not_covered
answer_shown (Fault unit code) = model.fault unit (code_shown code)
answer_shown (Found unit frames) = model.found unit (map frame_shown frames.items)
answer_shown (Pieces pieces) = model.located (map piece_shown pieces.items)
