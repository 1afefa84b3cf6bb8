use Rattle.std.proofs.Common.{◌≡◌, ◌<◌, ◌+◌, ℕ, Some}
use Rattle.dw_forms.specs.Run.{code_at}
use Rattle.dw_forms.proofs.run.count_in_order.Given as goal

abbrev pub invariant-loop-i : goal.invariant-loop-i
invariant-loop-i l = (k : ℕ) → k < l.i → code_at l.declarations k ≡ Some (k + 1)
