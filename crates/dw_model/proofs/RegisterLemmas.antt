-- The registers modulo 2 ^ 64 hold what the sums are.
use Rattle.std.proofs.Common.{◌≡◌, ℕ, ◌+◌, ◌%◌, ◌^◌, Bool, true, false, cond, List, [], ◌∷◌, refl, ap, ◌∙◌, arith}
use Rattle.std.specs.List.{sum_by}
use Rattle.std.proofs.Math.Nat.{add-mod-mod}
use Rattle.std.proofs.lemmas.List.Sums.{sum_by-cons}
use Rattle.dw_model.specs.LineHeader.{LineHeader}
use Rattle.dw_model.specs.Instruction.{Instruction, special, copy, advance_pc, advance_line, set_file, set_column, const_add_pc, fixed_advance_pc, end_sequence, set_address, no_effect}
use Rattle.dw_model.specs.Matrix.{address_advance, line_advance, residue, advanced, address_after, line_after, file_after, column_after, is_end, appends, rows_from}
use Rattle.dw_model.specs.Registers.{Registers, initial, next_address, next_line, next_file, next_column, step, row, run}

-- the registers after the instructions since the last end_sequence, the newest first
abbrev pub after : LineHeader → List Instruction → Registers
after header done = record {
  address = address_after header done;
  file = file_after done;
  line = line_after header done;
  column = column_after done;
}

added : (sum more : ℕ) → (sum % 2 ^ 64 + more) % 2 ^ 64 ≡ (more + sum) % 2 ^ 64
added sum more = grind (arith, add-mod-mod)

address-step : (header : LineHeader) (i : Instruction) (done : List Instruction) → next_address header i (address_after header done) ≡ address_after header (i ∷ done)
address-step header (special n) done = added (advanced header done) (address_advance header (special n))
address-step header copy done = added (advanced header done) 0
address-step header (advance_pc n) done = added (advanced header done) (address_advance header (advance_pc n))
address-step header (advance_line z) done = added (advanced header done) 0
address-step header (set_file n) done = added (advanced header done) 0
address-step header (set_column n) done = added (advanced header done) 0
address-step header const_add_pc done = added (advanced header done) (address_advance header const_add_pc)
address-step header (fixed_advance_pc n) done = added (advanced header done) n
address-step header end_sequence done = added (advanced header done) 0
address-step header (set_address n) done = refl
address-step header no_effect done = added (advanced header done) 0

line-step : (header : LineHeader) (i : Instruction) (done : List Instruction) → next_line header i (line_after header done) ≡ line_after header (i ∷ done)
line-step header i done =
    let by : Instruction → ℕ = λ i. residue (line_advance header i) in
    let sum : by i + (1 + sum_by by done) ≡ 1 + sum_by by (i ∷ done) = omega (arith, sum_by-cons by i done) in
    added (1 + sum_by by done) (by i) ∙ ap (λ (n : ℕ). n % 2 ^ 64) sum

file-step : (i : Instruction) (done : List Instruction) → next_file i (file_after done) ≡ file_after (i ∷ done)
file-step (special n) done = refl
file-step copy done = refl
file-step (advance_pc n) done = refl
file-step (advance_line z) done = refl
file-step (set_file n) done = refl
file-step (set_column n) done = refl
file-step const_add_pc done = refl
file-step (fixed_advance_pc n) done = refl
file-step end_sequence done = refl
file-step (set_address n) done = refl
file-step no_effect done = refl

column-step : (i : Instruction) (done : List Instruction) → next_column i (column_after done) ≡ column_after (i ∷ done)
column-step (special n) done = refl
column-step copy done = refl
column-step (advance_pc n) done = refl
column-step (advance_line z) done = refl
column-step (set_file n) done = refl
column-step (set_column n) done = refl
column-step const_add_pc done = refl
column-step (fixed_advance_pc n) done = refl
column-step end_sequence done = refl
column-step (set_address n) done = refl
column-step no_effect done = refl

step-after : (header : LineHeader) (i : Instruction) (done : List Instruction) → step header i (after header done) ≡ after header (i ∷ done)
step-after header i done = grind (arith, address-step, file-step, line-step, column-step)

-- what is at the beginning of the next instruction
begins : (header : LineHeader) (ends : Bool) (r : Registers) (done : List Instruction) → r ≡ after header done → cond ends initial r ≡ after header (cond ends [] done)
begins header true r done e = refl
begins header false r done e = e

pub run-after : (header : LineHeader) (list done : List Instruction) → run header (after header done) list ≡ rows_from header done list
unfolding run rows_from
run-after header [] done = refl
run-after header (i ∷ list) done =
    let next = step-after header i done in
    let others = ap (λ (r : Registers). run header r list) (begins header (is_end i) (step header i (after header done)) (i ∷ done) next) ∙ run-after header list (cond (is_end i) [] (i ∷ done)) in
    λ k. cond (appends i) (row (next k) (is_end i) ∷ others k) (others k)
