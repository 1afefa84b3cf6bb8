use Rattle.std.proofs.Common.{◌≡◌, ◌++◌, length, map}
use Rattle.dw_forms.specs.Spec.{spec_shown}
use Rattle.dw_forms.proofs.layout.decoded.Given as goal

-- what was decoded, and then what is left, is all
abbrev pub invariant-loop-spec : goal.invariant-loop-spec
invariant-loop-spec l = map spec_shown l.list.items ++ l.left ≡ l.specs

abbrev pub decreases-loop-spec : goal.decreases-loop-spec
decreases-loop-spec l = length l.left
