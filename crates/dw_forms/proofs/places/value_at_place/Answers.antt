use Rattle.std.proofs.Common.{◌≡◌, Ok, subst}
use Rattle.dw_model.specs.Answers.{Tells}
use Rattle.dw_model.specs.Reading as reading
use Rattle.dw_forms.specs.Fault.{form_fault}
use Rattle.dw_forms.specs.Value.{value_shown}
use Rattle.dw_forms.proofs.StepLemmas.{values_behind, placed-fault, placed-here, placed-unread}
use Rattle.dw_forms.proofs.places.value_at_place.Goals as goal

pub returns-in_default : goal.returns-in_default
returns-in_default c name specs placed =
    let place = c.args.place.now in
    let fault = c.in_default.ensures placed.0 placed.6 in
    placed-fault c.args.steps.now name place specs placed c.args.values.now (form_fault c.in_default.field-0) (subst (λ (p : reading.Place). Tells (form_fault c.in_default.field-0) (values_behind placed.0 p)) c.fork-cursor.ensures fault)

pub returns-in_default-value_ahead : goal.returns-in_default-value_ahead
returns-in_default-value_ahead c name specs placed =
    let place = c.args.place.now in
    let passed = c.in-Ok.ensures placed.0 placed.6 in
    placed-unread c.args.steps.now name place specs placed c.args.values.now c.pass_to.new.cursor (form_fault c.in_default-value_ahead.field-0) (subst (λ (p : reading.Place). values_behind placed.0 p ≡ Ok (tt, c.pass_to.new.cursor)) c.fork-cursor.ensures passed) c.in_default-value_ahead.ensures

pub returns : goal.returns
returns c name specs placed =
    let place = c.args.place.now in
    let passed = c.in-Ok.ensures placed.0 placed.6 in
    placed-here c.args.steps.now name place specs placed c.args.values.now c.pass_to.new.cursor c.value_ahead.new.cursor (value_shown c.in-Ok-value_ahead.value) (subst (λ (p : reading.Place). values_behind placed.0 p ≡ Ok (tt, c.pass_to.new.cursor)) c.fork-cursor.ensures passed) c.in-Ok-value_ahead.ensures
