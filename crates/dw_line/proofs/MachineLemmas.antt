-- One instruction more, or none: the rows that the machine appends from there on.
use Rattle.std.proofs.Common.{◌≡◌, ℕ, ◌+◌, ◌<◌, ◌≤◌, Bool, true, false, List, [], ◌∷◌, ◌++◌, length, Option, Some, None, Result, Ok, Err, refl, sym, ap, ◌∙◌, append_assoc, length-append, arith}
use Rattle.std.specs.Prelude.{option_map}
use Rattle.dw_model.specs.Results.{◌>>=◌}
use Rattle.dw_model.specs.Reading.{Place, start, items, onto, Spans}
use Rattle.dw_model.specs.Faults.{Bad, bad}
use Rattle.dw_model.specs.LineHeader.{LineHeader}
use Rattle.dw_model.specs.Instruction.{Instruction, next_instruction, instructions}
use Rattle.dw_model.specs.Matrix.{Row, matrix, is_end, appends}
use Rattle.dw_model.specs.Registers.{Registers, initial, step, row, run}
use Rattle.dw_model.proofs.StepLemmas.{bind_ok, bind_err, ok_is, ok-err}
use Rattle.dw_model.proofs.RegisterLemmas.{run-after}
use Rattle.dw_model.proofs.ProgramLemmas.{instructions_advance}
use Rattle.dw_model.proofs.InstructionLemmas.{instruction-spans}
use Rattle.dw_model.proofs.ItemsLemmas.{items-turn}
use Rattle.dw_line.specs.declared.instruction.Instruction.{Instruction as CodeInstruction}
use Rattle.dw_line.specs.Instruction.{instruction_shown}
use Rattle.dw_line.specs.declared.machine.Appended.{Appended}
use Rattle.dw_line.specs.Registers.{registers_shown}
use Rattle.dw_line.specs.Machine.{State, beginning, rows_on, row_before, registers_behind, least_bytes, IsNext}

pub read_one : (header : LineHeader) (found : Option CodeInstruction) (i : CodeInstruction) (p q : Place) → found ≡ Some i → next_instruction header p ≡ Ok (option_map instruction_shown found, q) → next_instruction header p ≡ Ok (Some (instruction_shown i), q)
read_one header found i p q is e = e ∙ ap (λ (o : Option CodeInstruction). Ok (option_map instruction_shown o, q)) is

pub read_none : (header : LineHeader) (found : Option CodeInstruction) (p q : Place) → found ≡ None → next_instruction header p ≡ Ok (option_map instruction_shown found, q) → next_instruction header p ≡ Ok (None, q)
read_none header found p q is e = e ∙ ap (λ (o : Option CodeInstruction). Ok (option_map instruction_shown o, q)) is

-- ---- bytes that are passed

-- some bytes or none
abbrev pub Passes : Place → Place → Type 0
Passes p q = Spans (λ piece. Unit {0}) p q

-- a byte at least
abbrev pub Advances : Place → Place → Type 0
Advances p q = Spans (λ piece. 0 < length piece) p q

pub passes_none : (p : Place) → Passes p p
passes_none p = ([], (refl, omega arith), tt)

pub passes_one : (header : LineHeader) (i : Instruction) (p q : Place) → next_instruction header p ≡ Ok (Some i, q) → Advances p q
passes_one header i p q e = grind (arith, instruction-spans, instructions_advance, length-append)

pub passes_more : (p q r : Place) → Passes p q → Advances q r → Advances p r
passes_more p q r s t =
    (s.0 ++ t.0, (s.1.0 ∙ ap (λ (rest : List ℕ). s.0 ++ rest) t.1.0 ∙ sym (append_assoc s.0 t.0 r.left), omega (arith, s.1.1, t.1.1, length-append s.0 t.0)), omega (arith, t.2, length-append s.0 t.0))

pub passes : (p q : Place) → Advances p q → Passes p q
passes p q s = (s.0, s.1, tt)

pub shorter : (p q : Place) → Advances p q → length q.left < length p.left
shorter p q s = omega (arith, ap length s.1.0, length-append s.0 q.left, s.2)

-- ---- one instruction

no_end : (i : Instruction) → appends i ≡ false → is_end i ≡ false
no_end i none = grind arith

run-row : (header : LineHeader) (r : Registers) (i : Instruction) (list : List Instruction) → appends i ≡ true → run header r (i ∷ list) ≡ row (step header i r) (is_end i) ∷ run header (registers_behind (step header i r) (is_end i)) list
unfolding run
run-row header r i list adds = rw adds refl

run-on : (header : LineHeader) (r : Registers) (i : Instruction) (list : List Instruction) → appends i ≡ false → is_end i ≡ false → run header r (i ∷ list) ≡ run header (step header i r) list
unfolding run
run-on header r i list none goes = rw (none, goes) refl

reads : (header : LineHeader) (i : Instruction) (p q : Place) → next_instruction header p ≡ Ok (Some i, q) → items (λ q. q.left) (next_instruction header) p ≡ onto i (items (λ q. q.left) (next_instruction header) q)
reads header i p q e = rw (items-turn (next_instruction header) (λ q. q.left) (instructions_advance header) p, e) refl

-- it appends no row
pub goes_on : (header : LineHeader) (r : Registers) (i : Instruction) (p q : Place) → next_instruction header p ≡ Ok (Some i, q) → appends i ≡ false → rows_on header (record { registers = r; place = p }) ≡ rows_on header (record { registers = step header i r; place = q })
unfolding rows_on
goes_on header r i p q e none =
    ap (λ (read : Result (List Instruction × Place) Bad). read >>= λ found. Ok (run header r found.0)) (reads header i p q e) ∙ by (items (λ q. q.left) (next_instruction header) q)
  where
    by : (read : Result (List Instruction × Place) Bad) → (onto i read >>= λ found. Ok (run header r found.0)) ≡ (read >>= λ found. Ok (run header (step header i r) found.0))
    by read = grind (arith, run-on, no_end)

-- it appends a row
pub appends_row : (header : LineHeader) (r : Registers) (i : Instruction) (p q : Place) → next_instruction header p ≡ Ok (Some i, q) → appends i ≡ true
    → rows_on header (record { registers = r; place = p }) ≡ row_before (row (step header i r) (is_end i)) (rows_on header (record { registers = registers_behind (step header i r) (is_end i); place = q }))
unfolding rows_on
appends_row header r i p q e adds =
    ap (λ (read : Result (List Instruction × Place) Bad). read >>= λ found. Ok (run header r found.0)) (reads header i p q e) ∙ by (items (λ q. q.left) (next_instruction header) q)
  where
    by : (read : Result (List Instruction × Place) Bad) → (onto i read >>= λ found. Ok (run header r found.0)) ≡ row_before (row (step header i r) (is_end i)) (read >>= λ found. Ok (run header (registers_behind (step header i r) (is_end i)) found.0))
    by read = grind (arith, run-row)

-- there is none
pub ends : (header : LineHeader) (r : Registers) (p q : Place) → next_instruction header p ≡ Ok (None, q) → rows_on header (record { registers = r; place = p }) ≡ Ok []
unfolding rows_on run
ends header r p q e = rw (items-turn (next_instruction header) (λ q. q.left) (instructions_advance header) p, e) refl

pub stops : (header : LineHeader) (r : Registers) (p : Place) → next_instruction header p ≡ Err bad → rows_on header (record { registers = r; place = p }) ≡ Err bad
unfolding rows_on
stops header r p e = rw (items-turn (next_instruction header) (λ q. q.left) (instructions_advance header) p, e) refl

-- ---- the whole program

-- a program that can be read has the rows of its matrix
pub matrix_rows : (header : LineHeader) (rows : List Row) → rows_on header (beginning header) ≡ Ok rows → (list : List Instruction) × (instructions header ≡ Ok list) × (rows ≡ matrix header list)
unfolding rows_on instructions
matrix_rows header rows e =
    let found = bind_ok (items (λ q. q.left) (next_instruction header) (start header.program)) (λ found. Ok (run header initial found.0)) rows e in
    (found.0.0, ap (λ (read : Result (List Instruction × Place) Bad). read >>= λ found. Ok found.0) found.1, sym (ok_is (run header initial found.0.0) rows found.2) ∙ run-after header found.0.0 [])

pub program_bad : (header : LineHeader) → rows_on header (beginning header) ≡ Err bad → instructions header ≡ Err bad
unfolding rows_on instructions
program_bad header e = grind (arith, bind_err, ok-err)

-- ---- the next row

pub next_is : (header : LineHeader) (old : State) (new : Place) (r : Registers) (ends : Bool) (next : Appended) → registers_shown next.registers ≡ r → next.ends ≡ ends
    → rows_on header old ≡ row_before (row r ends) (rows_on header (record { registers = registers_behind r ends; place = new })) → Advances old.place new → old.place.at + least_bytes ends ≤ new.at → IsNext header old next new
next_is header old new r ends next same last rows spans size = grind arith

pub same_on : (header : LineHeader) (p : Place) (r s : Registers) → r ≡ s → rows_on header (record { registers = r; place = p }) ≡ rows_on header (record { registers = s; place = p })
same_on header p r s e = ap (λ (r : Registers). rows_on header (record { registers = r; place = p })) e
