use Rattle.std.proofs.Common.{map}
use Rattle.a2l_lines.specs.Input.{input_shown}
use Rattle.a2l_lines.proofs.SharingLemmas.{IsDone}
use Rattle.a2l_lines.proofs.shares.shared.Given as goal

abbrev pub invariant-loop-i : goal.invariant-loop-i
invariant-loop-i l = IsDone (map input_shown l.inputs) l.pairs l.i l.asked.items l.picks.items
