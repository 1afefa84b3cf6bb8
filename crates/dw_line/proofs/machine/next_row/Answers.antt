use Rattle.std.proofs.Common.{◌∙◌, refl, sym, ap}
use Rattle.std.proofs.lemmas.Result.{err_from_is_err_and}
use Rattle.dw_model.specs.Instruction.{next_instruction}
use Rattle.dw_line.specs.Fault.{line_fault}
use Rattle.dw_line.specs.Header.{header_shown}
use Rattle.dw_line.specs.Instruction.{instruction_shown}
use Rattle.dw_model.specs.Matrix.{is_end}
use Rattle.dw_model.specs.Registers.{step}
use Rattle.dw_line.specs.Machine.{rows_on}
use Rattle.dw_line.specs.Registers.{registers_shown}
use Rattle.dw_line.proofs.CountLemmas.{still_tells}
use Rattle.dw_line.proofs.MachineLemmas.{read_one, read_none, passes_none, passes_one, passes_more, passes, shorter, goes_on, appends_row, ends, stops, next_is, same_on}
use Rattle.dw_line.proofs.EndLemmas.{row_size}
use Rattle.dw_line.proofs.machine.next_row.Goals as goal

pub loop-instruction-init : goal.loop-instruction-init
loop-instruction-init c = (refl, passes_none c.args.cursor.now)

pub returns-in_err-instruction : goal.returns-in_err-instruction
returns-in_err-instruction c =
    let header = header_shown c.args.header.now in
    let p = err_from_is_err_and c.from_residual.result c.from_residual.ensures.1 in
    let old = rows_on header (record { registers = registers_shown c.args.registers; place = c.args.cursor.now }) in
    rw (p.1) (still_tells (line_fault c.in_err-instruction.field-0.0) (line_fault p.0) (next_instruction header c.loop-instruction.cursor) old (ap line_fault p.2) c.in_err-instruction.ensures
    (λ e. c.loop-instruction.invariant.0 ∙ stops header (registers_shown c.loop-instruction.registers) c.loop-instruction.cursor e))

pub returns-in_default : goal.returns-in_default
returns-in_default c =
    let header = header_shown c.args.header.now in
    let read = read_none header c.in_ok-instruction.field-0 c.loop-instruction.cursor c.next_instruction.new.cursor c.in_default.is c.in_ok-instruction.ensures in
    c.loop-instruction.invariant.0 ∙ ends header (registers_shown c.loop-instruction.registers) c.loop-instruction.cursor c.next_instruction.new.cursor read

pub loop-instruction-smaller : goal.loop-instruction-smaller
loop-instruction-smaller c =
    let header = header_shown c.args.header.now in
    let read = read_one header c.in_ok-instruction.field-0 c.in-Some.instruction c.loop-instruction.cursor c.next_instruction.new.cursor c.in-Some.is c.in_ok-instruction.ensures in
    shorter c.loop-instruction.cursor c.next_instruction.new.cursor (passes_one header (instruction_shown c.in-Some.instruction) c.loop-instruction.cursor c.next_instruction.new.cursor read)

pub returns-then-appends : goal.returns-then-appends
returns-then-appends c =
    let header = header_shown c.args.header.now in
    let i = instruction_shown c.in-Some.instruction in
    let p = c.loop-instruction.cursor in
    let q = c.next_instruction.new.cursor in
    let r = registers_shown c.loop-instruction.registers in
    let read = read_one header c.in_ok-instruction.field-0 c.in-Some.instruction p q c.in-Some.is c.in_ok-instruction.ensures in
    next_is header (record { registers = registers_shown c.args.registers; place = c.args.cursor.now }) q (step header i r) (is_end i) (record { registers = c.step-registers.result; ends = c.is_end-ends.result }) c.step-registers.ensures c.is_end-ends.ensures
    (c.loop-instruction.invariant.0 ∙ appends_row header r i p q read (sym c.if-appends.ensures))
    (passes_more c.args.cursor.now p q c.loop-instruction.invariant.1 (passes_one header i p q read))
    (row_size header i c.args.cursor.now p q c.loop-instruction.invariant.1 read)

pub loop-instruction-preserved : goal.loop-instruction-preserved
loop-instruction-preserved c =
    let header = header_shown c.args.header.now in
    let i = instruction_shown c.in-Some.instruction in
    let p = c.loop-instruction.cursor in
    let q = c.next_instruction.new.cursor in
    let r = registers_shown c.loop-instruction.registers in
    let read = read_one header c.in_ok-instruction.field-0 c.in-Some.instruction p q c.in-Some.is c.in_ok-instruction.ensures in (
      c.loop-instruction.invariant.0 ∙ goes_on header r i p q read (sym c.if-appends.ensures) ∙ same_on header q (step header i r) (registers_shown c.step-registers.result) (sym c.step-registers.ensures),
      passes c.args.cursor.now q (passes_more c.args.cursor.now p q c.loop-instruction.invariant.1 (passes_one header i p q read)),
    )
