use Rattle.std.proofs.Common.{◌∙◌, ℕ, ap, sym, subst}
use Rattle.dw_model.specs.Registers as model
use Rattle.dw_line.specs.Header.{header_shown}
use Rattle.dw_line.specs.Machine.{State}
use Rattle.dw_line.specs.Recorder.{Recorder, recorder_shown, recorded}
use Rattle.dw_line.specs.Registers.{registers_shown}
use Rattle.dw_line.proofs.MachineLemmas.{shorter}
use Rattle.dw_line.proofs.ProgramLemmas.{Recording, begins_as, none_left, one_more, goes_on, finishes}
use Rattle.dw_line.proofs.program.run_program.Goals as goal

pub loop-recorded-init : goal.loop-recorded-init
loop-recorded-init c =
    begins_as (header_shown c.args.header.now) (recorder_shown c.new-recorded.result) (registers_shown c.initial-registers.result) c.new-cursor.result c.new-recorded.ensures c.initial-registers.ensures c.new-cursor.ensures

pub returns-in_default : goal.returns-in_default
returns-in_default c =
    let header = header_shown c.args.header.now in
    let state : State = record { registers = registers_shown c.loop-recorded.registers; place = c.loop-recorded.cursor } in
    finishes header (recorder_shown c.loop-recorded.recorded) state c.finish.new.self c.finish.ensures (none_left header state c.in_ok-appended.field-0 c.next_row.new.cursor c.in_default.is c.in_ok-appended.ensures) c.loop-recorded.invariant

pub loop-recorded-smaller : goal.loop-recorded-smaller
loop-recorded-smaller c =
    let header = header_shown c.args.header.now in
    let state : State = record { registers = registers_shown c.loop-recorded.registers; place = c.loop-recorded.cursor } in
    let is = one_more header state c.in_ok-appended.field-0 c.in-Some.appended c.next_row.new.cursor c.in-Some.is c.in_ok-appended.ensures in
    shorter c.loop-recorded.cursor c.next_row.new.cursor is.spans

pub loop-recorded-preserved : goal.loop-recorded-preserved
loop-recorded-preserved c =
    let header = header_shown c.args.header.now in
    let old = recorder_shown c.loop-recorded.recorded in
    let next = c.in-Some.appended in
    let place = c.next_row.new.cursor in
    let state : State = record { registers = registers_shown c.loop-recorded.registers; place = c.loop-recorded.cursor } in
    let behind : State = record { registers = registers_shown c.registers_behind-registers.result; place = place } in
    let is = one_more header state c.in_ok-appended.field-0 next place c.in-Some.is c.in_ok-appended.ensures in
    let more = goes_on header old state next place behind (ap (λ (r : model.Registers). record { registers = r; place = place }) c.registers_behind-registers.ensures) is c.loop-recorded.invariant in
    subst (λ (r : Recorder). Recording header r behind) (sym (c.in_ok-record.ensures ∙ ap (λ (n : ℕ). recorded next n old) c.at.ensures)) more
