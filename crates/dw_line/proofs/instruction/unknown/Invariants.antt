use Rattle.dw_model.specs.Instruction.{unknown_at}
use Rattle.dw_line.proofs.OperandLemmas.{SoFar}
use Rattle.dw_line.proofs.instruction.unknown.Given as goal

abbrev pub invariant-loop : goal.invariant-loop
invariant-loop l = SoFar l.count l.counter l.cursor (unknown_at l.fn.count l.fn.cursor)
