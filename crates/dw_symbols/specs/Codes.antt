-- How an answer is stored as a tree of numbers. Each part of it can be told from every other.
use Rattle.std.specs.Prelude.{ℕ, List, Option, refl, ◌≡◌, ◌⊎◌}
use mathlib.Core.Logic.{inl, inr}
use base.Stored.{coded_unit}
use Rattle.std.specs.Coded.{Coded, code_by, coded×, coded⊎, coded_ℕ, coded_list, coded_option}
use Rattle.dw_model.specs.Faults.{entry_fault, depth_fault, ranges_fault}
use Rattle.dw_model.specs.Answer.{Location, Frame, Piece, Code, tree_fault, line_fault}
use Rattle.dw_model.specs.Answer.{Answer, not_covered, fault, found, located}

abbrev pub bytes_code : Coded (Option (List ℕ))
bytes_code = coded_option (coded_list coded_ℕ)

abbrev pub number_code : Coded (Option ℕ)
number_code = coded_option coded_ℕ

abbrev pub location_code : Coded Location
location_code =
    code_by (Option (List ℕ) × (Option ℕ × Option ℕ)) (coded× bytes_code (coded× number_code number_code))
    (λ location. (location.path, (location.line, location.column)))
    (λ p. record { path = p.0; line = p.1.0; column = p.1.1 }) (λ _. refl)

abbrev pub frame_code : Coded Frame
frame_code =
    code_by (Option (List ℕ) × Location) (coded× bytes_code location_code)
    (λ frame. (frame.name, frame.location))
    (λ p. record { name = p.0; location = p.1 }) (λ _. refl)

-- the faults of a unit, in order of their numbers
abbrev pub FaultParts : Type 0
FaultParts = Unit {0} ⊎ (Unit {0} ⊎ (Unit {0} ⊎ Unit {0}))

abbrev pub fault_parts : Code → FaultParts
fault_parts (tree_fault entry_fault) = inl tt
fault_parts (tree_fault depth_fault) = inr (inl tt)
fault_parts (tree_fault ranges_fault) = inr (inr (inl tt))
fault_parts line_fault = inr (inr (inr tt))

abbrev pub fault_from : FaultParts → Code
fault_from (inl _) = tree_fault entry_fault
fault_from (inr (inl _)) = tree_fault depth_fault
fault_from (inr (inr (inl _))) = tree_fault ranges_fault
fault_from (inr (inr (inr _))) = line_fault

pub fault_back : (code : Code) → fault_from (fault_parts code) ≡ code
fault_back (tree_fault entry_fault) = refl
fault_back (tree_fault depth_fault) = refl
fault_back (tree_fault ranges_fault) = refl
fault_back line_fault = refl

abbrev pub fault_code : Coded Code
fault_code =
    code_by FaultParts (coded⊎ coded_unit (coded⊎ coded_unit (coded⊎ coded_unit coded_unit)))
    fault_parts fault_from fault_back

abbrev pub piece_code : Coded Piece
piece_code =
    code_by (ℕ × (ℕ × Location)) (coded× coded_ℕ (coded× coded_ℕ location_code))
    (λ piece. (piece.begin, (piece.end, piece.location)))
    (λ p. record { begin = p.0; end = p.1.0; location = p.1.1 }) (λ _. refl)

-- not covered, a fault of a unit, frames, pieces
abbrev pub AnswerParts : Type 0
AnswerParts = Unit {0} ⊎ ((ℕ × Code) ⊎ ((ℕ × List Frame) ⊎ List Piece))

abbrev pub answer_parts : Answer → AnswerParts
answer_parts not_covered = inl tt
answer_parts (fault unit code) = inr (inl (unit, code))
answer_parts (found unit frames) = inr (inr (inl (unit, frames)))
answer_parts (located pieces) = inr (inr (inr pieces))

abbrev pub answer_from : AnswerParts → Answer
answer_from (inl _) = not_covered
answer_from (inr (inl p)) = fault p.0 p.1
answer_from (inr (inr (inl p))) = found p.0 p.1
answer_from (inr (inr (inr pieces))) = located pieces

pub answer_back : (answer : Answer) → answer_from (answer_parts answer) ≡ answer
answer_back not_covered = refl
answer_back (fault unit code) = refl
answer_back (found unit frames) = refl
answer_back (located pieces) = refl

abbrev pub parts_code : Coded AnswerParts
parts_code =
    coded⊎ coded_unit (coded⊎ (coded× coded_ℕ fault_code)
    (coded⊎ (coded× coded_ℕ (coded_list frame_code)) (coded_list piece_code)))

abbrev pub answer_code : Coded Answer
answer_code = code_by AnswerParts parts_code answer_parts answer_from answer_back
