use Rattle.std.proofs.Common.{◌≡◌, length}
use Rattle.std.specs.Prelude.{is_some}
use Rattle.dw_forms.specs.Named.{first_named}
use Rattle.dw_forms.proofs.ranged.is_declared.Given as goal

-- the name is declared among those that are left, or it isn't at all
abbrev pub invariant-loop-spec : goal.invariant-loop-spec
invariant-loop-spec l = is_some (first_named l.name l.left) ≡ is_some (first_named l.name l.specs)

abbrev pub decreases-loop-spec : goal.decreases-loop-spec
decreases-loop-spec l = length l.left
