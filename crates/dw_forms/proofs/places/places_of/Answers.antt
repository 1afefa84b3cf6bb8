use Rattle.std.proofs.Common.{◌≡◌, ◌∙◌, ◌++◌, ◌∷◌, [], List, None, ap, get_or, map, subst, sym, take, true}
use Rattle.std.proofs.lemmas.List.{map_push, take_more}
use Rattle.dw_model.specs.Abbrev.{Specification}
use Rattle.dw_forms.specs.Spec.{spec_shown}
use Rattle.dw_forms.specs.Steps.{ArePlaces, AreSteps}
use Rattle.dw_forms.specs.declared.declaration.Spec.{Spec}
use Rattle.dw_forms.specs.declared.steps.Step.{Step}
use Rattle.dw_forms.proofs.StepLemmas.{pass-more, places-still, step-more}
use Rattle.dw_forms.proofs.places.places_of.Goals as goal

-- what is in the place of a specification after the last one
abbrev none : Spec
none = record { name = 0; form = 0; implicit = None }

pub loop-spec-preserved-in_default : goal.loop-spec-preserved-in_default
loop-spec-preserved-in_default c =
    let specs = c.args.specs.now in
    let i = c.loop-spec.spec-index in
    let spec = get_or specs i none in
    let before = map spec_shown (take i specs) in
    let steps = c.loop-spec.steps.items in
    let step : Step = record { before = c.loop-spec.rest; spec = spec } in
    let more = sym (ap (map spec_shown) (take_more specs i none c.loop-spec-test.true) ∙ map_push spec_shown (take i specs) spec) in
    let noted : (named : c.args.named ≡ true) → ArePlaces steps c.note.new.places.items (before ++ spec_shown spec ∷ []) = λ named. c.in_ok-note.ensures steps before c.loop-spec.invariant.0 (sym c.len.ensures.value) named (c.loop-spec.invariant.1 named) in
    rw (c.in_ok-push.ensures.ok) (
      subst (λ (all : List Specification). AreSteps (steps ++ step ∷ []) 0 all) more (step-more steps c.loop-spec.rest before spec c.loop-spec.invariant.0),
      λ named. subst (λ (all : List Specification). ArePlaces (steps ++ step ∷ []) c.note.new.places.items all) more (places-still steps step c.note.new.places.items (before ++ spec_shown spec ∷ []) (noted named)),
    )

pub loop-spec-preserved : goal.loop-spec-preserved
loop-spec-preserved c =
    let specs = c.args.specs.now in
    let i = c.loop-spec.spec-index in
    let spec = get_or specs i none in
    let before = map spec_shown (take i specs) in
    let steps = c.loop-spec.steps.items in
    let more = sym (ap (map spec_shown) (take_more specs i none c.loop-spec-test.true) ∙ map_push spec_shown (take i specs) spec) in
    let noted : (named : c.args.named ≡ true) → ArePlaces steps c.note.new.places.items (before ++ spec_shown spec ∷ []) = λ named. c.in_ok-note.ensures steps before c.loop-spec.invariant.0 (sym c.len.ensures.value) named (c.loop-spec.invariant.1 named) in
    let size = c.in-Some.ensures in (
      subst (λ (all : List Specification). AreSteps steps c.in-Some.passed all) more (pass-more steps c.loop-spec.rest size.0 c.in-Some.passed before (spec_shown spec) size.1 size.2 c.loop-spec.invariant.0),
      λ named. subst (λ (all : List Specification). ArePlaces steps c.note.new.places.items all) more (noted named),
    )
