-- The parts of answers by their indexes, and what structs report of them.
use Rattle.std.specs.Prelude.{◌≡◌, ℕ, List, Option, Some, None, MatchOption, slice_get, option_map, option_and_then}
use Rattle.dw_model.specs.Answer.{Answer, Frame, Piece, not_covered, fault, found, located}
use Rattle.a2l_c.specs.declared.structs.CAnswer.{CAnswer}
use Rattle.a2l_c.specs.declared.structs.CFrame.{CFrame}
use Rattle.a2l_c.specs.declared.structs.CPiece.{CPiece}
use Rattle.a2l_c.specs.Structs.{IsFrame, answer_told, piece_told, path_of}

-- a frame of an answer by its index, innermost first
abbrev pub frame_of : ℕ → Answer → Option Frame
frame_of j not_covered = None
frame_of j (fault unit code) = None
frame_of j (found unit frames) = slice_get frames j
frame_of j (located pieces) = None

-- a piece of an answer by its index
abbrev pub piece_of : ℕ → Answer → Option Piece
piece_of j not_covered = None
piece_of j (fault unit code) = None
piece_of j (found unit frames) = None
piece_of j (located pieces) = slice_get pieces j

-- frame j of answer i
abbrev pub frame_in : List Answer → (i j : ℕ) → Option Frame
frame_in answers i j = option_and_then (frame_of j) (slice_get answers i)

-- piece j of the first answer
abbrev pub piece_in : List Answer → (j : ℕ) → Option Piece
piece_in answers j = option_and_then (piece_of j) (slice_get answers 0)

-- a struct reports answer i
abbrev pub ReportsAnswer : (i : ℕ) → CAnswer → List Answer → Type 0
ReportsAnswer i told answers = option_map answer_told (slice_get answers i) ≡ Some told

abbrev pub LacksAnswer : (i : ℕ) → List Answer → Type 0
LacksAnswer i answers = slice_get answers i ≡ None

-- a struct reports frame j of answer i, and this holds of its path
abbrev pub ReportsFrame : (i j : ℕ) → CFrame → (List ℕ → Type 0) → List Answer → Type 0
ReportsFrame i j told such answers =
    MatchOption (frame_in answers i j) ⊥ (λ frame. IsFrame frame told × such (path_of frame.location))

abbrev pub LacksFrame : (i j : ℕ) → List Answer → Type 0
LacksFrame i j answers = frame_in answers i j ≡ None

-- a struct reports piece j of the first answer, and this holds of its path
abbrev pub ReportsPiece : (j : ℕ) → CPiece → (List ℕ → Type 0) → List Answer → Type 0
ReportsPiece j told such answers =
    MatchOption (piece_in answers j) ⊥ (λ piece. (told ≡ piece_told piece) × such (path_of piece.location))

abbrev pub LacksPiece : (j : ℕ) → List Answer → Type 0
LacksPiece j answers = piece_in answers j ≡ None
