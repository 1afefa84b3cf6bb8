use Rattle.std.proofs.Common.{◌≡◌, ◌++◌, map, length}
use Rattle.std.specs.Str.Lines.{lines}
use Rattle.dw_model.specs.Output.{query_in}
use Rattle.a2l_lines.specs.Input.{asked_by}
use Rattle.a2l_lines.proofs.input.inputs_of_lines.Given as goal

abbrev pub invariant-loop-left : goal.invariant-loop-left
invariant-loop-left l = map asked_by l.inputs.items ++ map query_in (lines l.left) ≡ map query_in (lines l.fn.bytes)

abbrev pub decreases-loop-left : goal.decreases-loop-left
decreases-loop-left l = length l.left
