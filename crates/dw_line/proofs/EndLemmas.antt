-- How many bytes an instruction takes at least that appends a row: three where it ends a sequence.
use Rattle.std.proofs.Common.{◌≡◌, ℕ, suc, ◌+◌, ◌<◌, ◌≤◌, Bool, true, false, List, [], ◌∷◌, length, Some, Ok, refl, subst, ap, ◌∙◌, length-append, arith}
use Rattle.std.specs.Prelude.{ℤ, nat_eq}
use Rattle.std.specs.List.{AllByRecursion}
use Rattle.std.specs.Map.{lookup}
use Rattle.std.proofs.lemmas.Option.{same_Some}
use Rattle.dw_model.specs.Leb.{IsLeb}
use Rattle.dw_model.specs.Reading.{Place}
use Rattle.dw_model.specs.LineHeader.{LineHeader}
use Rattle.dw_model.specs.Instruction.{Instruction, next_instruction, extended, Operands, none, unsigned, signed, two_bytes, standard_opcodes, AreOperands, IsExtended, IsBehind, is_special, is_extended, is_standard, is_unknown, IsInstruction}
use Rattle.dw_model.specs.Matrix.{is_end}
use Rattle.dw_model.proofs.InstructionLemmas.{instruction-spans}
use Rattle.dw_line.specs.Machine.{least_bytes}
use Rattle.dw_line.proofs.MachineLemmas.{Passes}

few_bytes : (ends : Bool) → least_bytes ends ≤ 3
few_bytes true = omega arith
few_bytes false = omega arith

-- ---- no standard opcode ends a sequence

abbrev GoesOn : Operands → Type 0
GoesOn (none i) = is_end i ≡ false
GoesOn (unsigned make) = (n : ℕ) → is_end (make n) ≡ false
GoesOn (signed make) = (z : ℤ) → is_end (make z) ≡ false
GoesOn (two_bytes make) = (n : ℕ) → is_end (make n) ≡ false

all_go_on : AllByRecursion (λ (entry : ℕ × Operands). GoesOn entry.1) standard_opcodes
all_go_on = (refl, (λ n. refl, (λ z. refl, (λ n. refl, (λ n. refl, (refl, (refl, (refl, (λ n. refl, (refl, (refl, (λ n. refl, tt))))))))))))

goes_on_of : (test : ℕ → Bool) (list : List (ℕ × Operands)) (operands : Operands) → AllByRecursion (λ (entry : ℕ × Operands). GoesOn entry.1) list → lookup test list ≡ Some operands → GoesOn operands
goes_on_of test [] operands each found = absurd cc
goes_on_of test (entry ∷ list) operands each found = by (test entry.0) refl (goes_on_of test list operands each.1)
  where
    by : (passes : Bool) → test entry.0 ≡ passes → (lookup test list ≡ Some operands → GoesOn operands) → GoesOn operands
    by true e later = subst GoesOn (same_Some entry.1 operands (rw (e) at found)) each.0
    by false e later = later (rw (e) at found)

standard_on : (operands : Operands) (bytes : List ℕ) (i : Instruction) → GoesOn operands → AreOperands operands bytes i → is_end i ≡ false
standard_on (none instruction) bytes i goes are = ap is_end are.1 ∙ goes
standard_on (unsigned make) bytes i goes are = ap is_end are.3 ∙ goes are.0
standard_on (signed make) bytes i goes are = ap is_end are.3 ∙ goes are.0
standard_on (two_bytes make) bytes i goes are = ap is_end are.1 ∙ goes _

-- ---- an extended opcode takes three bytes

some_content : (content : List ℕ) (i : Instruction) → extended content ≡ Ok i → 0 < length content
unfolding extended
some_content [] i e = absurd cc
some_content (opcode ∷ operands) i e = omega arith

some_length : (bytes : List ℕ) → IsLeb bytes → 0 < length bytes
some_length [] is = absurd is
some_length (byte ∷ bytes) is = omega arith

extended_size : (bytes : List ℕ) (i : Instruction) → IsExtended bytes i → 2 ≤ length bytes
extended_size bytes i is = omega (arith, ap (λ (bytes : List ℕ). length bytes) is.2, length-append is.0 is.1, some_length is.0 is.3.0, some_content is.1 i is.5)

-- ---- any instruction

goes_on_size : (i : Instruction) (bytes : List ℕ) → is_end i ≡ false → least_bytes (is_end i) ≤ suc (length bytes)
goes_on_size i bytes goes = rw goes (omega arith)

behind_size : (header : LineHeader) (opcode : ℕ) (bytes : List ℕ) (i : Instruction) → IsBehind header opcode bytes i → least_bytes (is_end i) ≤ suc (length bytes)
behind_size header opcode bytes i (is_special above empty makes) = goes_on_size i bytes (ap is_end makes)
behind_size header opcode bytes i (is_extended below is makes) = omega (arith, few_bytes (is_end i), extended_size bytes i makes)
behind_size header opcode bytes i (is_standard below operands some are) = goes_on_size i bytes (standard_on operands bytes i (goes_on_of (nat_eq opcode) standard_opcodes operands all_go_on some) are)
behind_size header opcode bytes i (is_unknown below other absent are makes) = goes_on_size i bytes (ap is_end makes)

spelling_size : (header : LineHeader) (piece : List ℕ) (i : Instruction) → IsInstruction header piece i → least_bytes (is_end i) ≤ length piece
spelling_size header [] i is = absurd is
spelling_size header (opcode ∷ bytes) i is = behind_size header opcode bytes i is

pub row_size : (header : LineHeader) (i : Instruction) (old p q : Place) → Passes old p → next_instruction header p ≡ Ok (Some i, q) → old.at + least_bytes (is_end i) ≤ q.at
row_size header i old p q before e =
    let s = instruction-spans header p q i e in
    omega (arith, before.1.1, s.1.1, spelling_size header s.0 i s.2)
