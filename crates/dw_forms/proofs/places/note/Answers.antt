use Rattle.std.proofs.Common.{◌∙◌, ap, sym}
use Rattle.dw_forms.specs.Spec.{spec_shown}
use Rattle.dw_forms.specs.Steps.{find_place}
use Rattle.dw_forms.specs.declared.places.Place.{Place}
use Rattle.dw_forms.proofs.StepLemmas.{places-known, places-new, places-unused}
use Rattle.dw_forms.proofs.places.note.Goals as goal

pub returns-then-not-is_used : goal.returns-then-not-is_used
returns-then-not-is_used c steps specs at counted named are =
    places-unused steps c.args.places.now.items specs (spec_shown c.args.spec.now) are (sym c.is_used.ensures ∙ c.if-not-is_used.true)

pub returns-in-Some : goal.returns-in-Some
returns-in-Some c steps specs at counted named are =
    places-known steps c.args.places.now.items specs (spec_shown c.args.spec.now) are c.in-Some.field-0.now (ap (find_place c.args.spec.now.name) (sym c.as_slice.ensures.value) ∙ sym c.in-Some.ensures)

pub returns : goal.returns
returns c steps specs at counted named are =
    let new : Place = record { spec = c.args.spec.now; count = c.args.count; offset = c.args.offset } in
    rw (c.in_ok-push.ensures.items) (places-new steps c.args.places.now.items specs new are (ap (find_place c.args.spec.now.name) (sym c.as_slice.ensures.value) ∙ sym c.in_default.ensures) at counted)
