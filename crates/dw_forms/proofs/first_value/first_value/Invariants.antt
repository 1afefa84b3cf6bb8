use Rattle.std.proofs.Common.{◌≡◌, length}
use Rattle.dw_bytes.specs.Width.{size_of}
use Rattle.dw_forms.specs.Named.{value_up_to}
use Rattle.dw_forms.proofs.first_value.first_value.Given as goal

-- what is found among the values that are left is what is found among all
abbrev pub invariant-loop-spec : goal.invariant-loop-spec
invariant-loop-spec l = value_up_to (size_of l.fn.width) l.fn.name l.left l.values ≡ value_up_to (size_of l.fn.width) l.fn.name l.specs l.fn.values

abbrev pub decreases-loop-spec : goal.decreases-loop-spec
decreases-loop-spec l = length l.left
