use Rattle.std.proofs.Common.{◌≡◌, ◌≤◌, ◌++◌, ℕ, length, map, true}
use Rattle.std.specs.Prelude.{is_some}
use Rattle.dw_forms.specs.Named.{first_named}
use Rattle.dw_forms.specs.Needed.{is_among, AreAlike}
use Rattle.dw_forms.specs.Spec.{spec_shown}
use Rattle.dw_forms.proofs.needed.needed_of.Given as goal

-- what is needed so far, and then what is left, are alike to all; each name that was noted is there
abbrev pub invariant-loop-spec : goal.invariant-loop-spec
invariant-loop-spec l =
    AreAlike (map spec_shown l.needed.items ++ l.left) l.specs × (length l.needed.items ≤ l.most)
    × ((name : ℕ) → is_among name l.names.items ≡ true → is_some (first_named name (map spec_shown l.needed.items)) ≡ true)

abbrev pub decreases-loop-spec : goal.decreases-loop-spec
decreases-loop-spec l = length l.left
