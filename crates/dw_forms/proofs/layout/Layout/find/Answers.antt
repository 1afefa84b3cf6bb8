use Rattle.std.proofs.Common.{◌∙◌, List, ap, subst, sym}
use Rattle.dw_model.specs.Abbrev.{Specification}
use Rattle.dw_bytes.specs.Width.{size_of}
use Rattle.dw_bytes.specs.declared.width.Width.{Width}
use Rattle.dw_forms.specs.Named.{value_up_to}
use Rattle.dw_forms.specs.Steps.{ArePlaces, IsPlaced}
use Rattle.dw_forms.specs.declared.steps.Step.{Step}
use Rattle.dw_forms.proofs.StepLemmas.{place-found, place-none}
use Rattle.dw_forms.proofs.layout.Layout.find.Goals as goal

pub returns-in_err-place : goal.returns-in_err-place
returns-in_err-place c =
    let places = c.self.inside.places in
    let named = c.if-not-self.false in
    let are = subst (λ (specs : List Specification). ArePlaces places.steps.items places.list.items specs) c.self.view_is (c.self.invariant.places named) in
    let none = sym c.in_err-place.ensures in
    rw (c.from_residual.ensures) (place-none (size_of c.args.width) places.steps.items places.list.items c.args.name c.args.self.now c.args.values.now are (sym c.is_used.ensures ∙ c.if-not-is_used.false) none)

pub returns-in-Four : goal.returns-in-Four
returns-in-Four c =
    let places = c.self.inside.places in
    let named = c.if-not-self.false in
    let are = subst (λ (specs : List Specification). ArePlaces places.steps.items places.list.items specs) c.self.view_is (c.self.invariant.places named) in
    let found = sym c.in_ok-place.ensures in
    let placed = place-found places.steps.items places.list.items c.args.name c.args.self.now c.in_ok-place.place.now are (sym c.is_used.ensures ∙ c.if-not-is_used.false) found in
    c.value_at_place.ensures c.args.name c.args.self.now (subst (λ (steps : List Step). IsPlaced steps c.args.name c.in_ok-place.place.now c.args.self.now) (sym c.as_slice.ensures) placed)
    ∙ ap (λ (width : Width). value_up_to (size_of width) c.args.name c.args.self.now c.args.values.now) (sym c.in-Four.is)
