use Rattle.std.proofs.Common.{ap}
use Rattle.std.proofs.lemmas.Result.{err_from_is_err_and}
use Rattle.dw_model.specs.Results.{or_fault}
use Rattle.dw_model.specs.Leb.{uleb_at}
use Rattle.dw_model.specs.Faults.{bad}
use Rattle.dw_model.specs.Instruction.{unknown_at}
use Rattle.dw_line.specs.Fault.{line_fault}
use Rattle.dw_line.proofs.CountLemmas.{still_tells}
use Rattle.dw_line.proofs.OperandLemmas.{begins, goes_on, stops, ends}
use Rattle.dw_line.proofs.instruction.unknown.Goals as goal

pub loop-init : goal.loop-init
loop-init c = begins c.args.count c.args.cursor.now

pub returns-in_err-_operand : goal.returns-in_err-_operand
returns-in_err-_operand c =
    let p = err_from_is_err_and c.from_residual.result c.from_residual.ensures.1 in
    let whole = unknown_at c.args.count c.args.cursor.now in
    rw (p.1) (still_tells (line_fault c.in_err-_operand.field-0.0) (line_fault p.0) (or_fault bad (uleb_at c.loop.cursor)) whole (ap line_fault p.2) c.in_err-_operand.ensures (stops c.args.count c.loop.counter c.loop.cursor whole c.loop-test.true c.loop.invariant))

pub loop-preserved : goal.loop-preserved
loop-preserved c =
    goes_on c.args.count c.loop.counter c.in_ok-_operand._operand c.loop.cursor c.uleb.new.cursor (unknown_at c.args.count c.args.cursor.now) c.loop-test.true c.in_ok-_operand.ensures c.loop.invariant

pub returns : goal.returns
returns c = ends c.args.count c.loop.counter c.loop.cursor (unknown_at c.args.count c.args.cursor.now) c.loop-test.false c.loop.invariant
