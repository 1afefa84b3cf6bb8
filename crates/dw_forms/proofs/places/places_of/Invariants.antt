use Rattle.std.proofs.Common.{◌≡◌, map, take, true}
use Rattle.dw_forms.specs.Spec.{spec_shown}
use Rattle.dw_forms.specs.Steps.{ArePlaces, AreSteps}
use Rattle.dw_forms.proofs.places.places_of.Given as goal

-- the steps and places so far are those of the attributes so far
abbrev pub invariant-loop-spec : goal.invariant-loop-spec
invariant-loop-spec l =
    AreSteps l.steps.items l.rest (map spec_shown (take l.spec-index l.specs)) × (l.named ≡ true → ArePlaces l.steps.items l.list.items (map spec_shown (take l.spec-index l.specs)))
