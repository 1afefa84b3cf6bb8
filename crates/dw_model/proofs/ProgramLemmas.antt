-- The instructions of a line program are those whose spellings are its bytes.
use Rattle.std.proofs.Common.{◌≡◌, ℕ, ◌+◌, ◌<◌, Bool, cond, List, [], ◌∷◌, ◌++◌, length, Option, Some, None, Result, Ok, Err, refl, sym, ap, ◌∙◌, arith}
use Rattle.std.proofs.lemmas.Option.{same_Some}
use Rattle.std.proofs.lemmas.Bool.{eqb-true}
use Rattle.std.proofs.lemmas.List.{nil_from_length}
use Rattle.dw_model.specs.Results.{◌>>=◌}
use Rattle.dw_model.specs.Reading.{Place, start, items, AreItems}
use Rattle.dw_model.specs.Faults.{Bad}
use Rattle.dw_model.specs.LineHeader.{LineHeader}
use Rattle.dw_model.specs.Instruction.{Instruction, opcode_at, next_instruction, instructions, IsInstruction, AreInstructions}
use Rattle.dw_model.proofs.StepLemmas.{ok_is, none_read, read_of}
use Rattle.dw_model.proofs.ReadingLemmas.{between-length, behind_front, same_front}
use Rattle.dw_model.proofs.ItemsLemmas.{Advances, read_by}
use Rattle.dw_model.proofs.InstructionLemmas.{instruction-ok, instruction-spans}

instruction-long : (header : LineHeader) (piece : List ℕ) (i : Instruction) → IsInstruction header piece i → 0 < length piece
instruction-long header [] i h = absurd h
instruction-long header (b ∷ piece) i h = omega arith

pub instructions_advance : (header : LineHeader) → Advances (λ p. p.left) (next_instruction header)
instructions_advance header p i q e =
    let s = instruction-spans header p q i e in
    omega (arith, between-length p q s.0 s.1, instruction-long header s.0 i s.2)

abbrev Next : Type 0
Next = Result (Option Instruction × Place) Bad

read_from : (header : LineHeader) (opcode : Result (ℕ × Place) Bad) (none : Bool) (p : Place) → cond {A = Next} none (Ok (None, p)) (opcode >>= λ opcode. opcode_at header opcode.0 opcode.1 >>= λ instruction. Ok (Some instruction.0, instruction.1)) ≡ cond {A = Next} none (Ok (None, p)) ((opcode >>= λ opcode. opcode_at header opcode.0 opcode.1) >>= λ instruction. Ok (Some instruction.0, instruction.1))
read_from header (Ok x) none p = refl
read_from header (Err f) none p = refl

instruction-end : (header : LineHeader) (p q : Place) → next_instruction header p ≡ Ok (None, q) → p.left ≡ []
unfolding next_instruction
instruction-end header p q e = grind (arith, none_read, read_from, nil_from_length, eqb-true)

at_end : (header : LineHeader) (p : Place) → p.left ≡ [] → next_instruction header p ≡ Ok (None, p)
unfolding next_instruction
at_end header p e = rw e refl

are-program : (header : LineHeader) (list : List Instruction) (p q : Place) → AreItems (next_instruction header) p list q → AreInstructions header p.left list
are-program header [] p q h = instruction-end header p q h
are-program header (i ∷ list) p q h =
    let s = instruction-spans header p h.0 i h.1 in
    (s.0, h.0.left, s.1.0, s.2, are-program header list h.0 q h.2)

program-are : (header : LineHeader) (list : List Instruction) (p : Place) (bytes : List ℕ) → p.left ≡ bytes → AreInstructions header bytes list → (q : Place) × AreItems (next_instruction header) p list q
program-are header [] p bytes e h = (p, at_end header p (e ∙ h))
program-are header (i ∷ list) p bytes e h =
    let q : Place = record { at = p.at + length h.0; left = h.1 } in
    let others = program-are header list q h.1 refl h.4 in
    (others.0, (q, instruction-ok header p q h.0 i (e ∙ h.2, refl) h.3, others.1))

pub instructions-are : (header : LineHeader) (list : List Instruction) → instructions header ≡ Ok list → AreInstructions header header.program list
unfolding instructions
instructions-are header list e =
    let read = read_of (items (λ p. p.left) (next_instruction header) (start header.program)) list e in
    are-program header list (start header.program) read.0 (((read_by (next_instruction header) (λ p. p.left) (instructions_advance header)).read (start header.program) read.0 list).0 read.1)

pub are-instructions : (header : LineHeader) (list : List Instruction) → AreInstructions header header.program list → instructions header ≡ Ok list
unfolding instructions
are-instructions header list h =
    let are = program-are header list (start header.program) header.program refl h in
    rw (((read_by (next_instruction header) (λ p. p.left) (instructions_advance header)).read (start header.program) are.0 list).1 are.1) refl

pub alone : (header : LineHeader) (first second rest others : List ℕ) (i j : Instruction) → IsInstruction header first i → IsInstruction header second j → first ++ rest ≡ second ++ others → (first ≡ second) × (i ≡ j)
alone header first second rest others i j h k e =
    let one = instruction-ok header (start (first ++ rest)) (behind_front first rest) first i (refl, omega arith) h in
    let two = instruction-ok header (start (first ++ rest)) (behind_front second others) second j (e, omega arith) k in
    let same = ok_is (Some i, behind_front first rest) (Some j, behind_front second others) (sym one ∙ two) in
    (same_front first second rest others e (ap (λ (x : Option Instruction × Place). x.1.at) same), same_Some i j (ap (λ (x : Option Instruction × Place). x.0) same))
