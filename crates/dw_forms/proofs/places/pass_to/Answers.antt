use Rattle.std.proofs.Common.{◌≡◌, ◌∙◌, ℕ, List, Option, ap, sym, arith}
use Rattle.std.specs.Prelude.{ok_or}
use Rattle.dw_model.specs.Faults.{ends_early}
use Rattle.dw_model.specs.Reading.{Place}
use Rattle.dw_forms.specs.Size.{place_behind}
use Rattle.dw_forms.proofs.StepLemmas.{fixed-before}
use Rattle.dw_forms.proofs.places.pass_to.Goals as goal

pub returns-in_default : goal.returns-in_default
returns-in_default c specs are =
    let place = c.args.place.now in
    let none : place.count ≡ 0 = omega (arith, c.if-place-gt0.false) in
    sym (fixed-before c.args.steps.now place.count place.offset specs c.args.cursor.now none are) ∙ ap (λ (taken : Option (List ℕ × Place)). place_behind (ok_or taken ends_early)) c.in_default.ensures.0

pub returns : goal.returns
returns c specs are =
    let place = c.args.place.now in
    let none : place.count ≡ 0 = omega (arith, c.if-place-gt0.false) in
    sym (fixed-before c.args.steps.now place.count place.offset specs c.args.cursor.now none are) ∙ ap (λ (taken : Option (List ℕ × Place)). place_behind (ok_or taken ends_early)) c.in-Some.ensures
