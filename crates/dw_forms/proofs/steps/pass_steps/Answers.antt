use Rattle.std.proofs.Common.{◌+◌, ◌∙◌, ℕ, List, Option, None, ap, drop, get_or, refl, subst, sym}
use Rattle.std.specs.Prelude.{ok_or}
use Rattle.std.proofs.lemmas.List.{drop_all, drop_more}
use Rattle.std.proofs.lemmas.Result.{err_from_is_err_and}
use Rattle.dw_model.specs.Faults.{ends_early}
use Rattle.dw_model.specs.Reading.{Place}
use Rattle.dw_forms.specs.Fault.{form_fault}
use Rattle.dw_forms.specs.Size.{place_behind}
use Rattle.dw_forms.specs.Value.{value_shown}
use Rattle.dw_forms.specs.declared.steps.Step.{Step}
use Rattle.dw_forms.proofs.StepLemmas.{values_behind, Leads, leads-on, leads-to-fault, leads-to-rest}
use Rattle.dw_forms.proofs.steps.pass_steps.Goals as goal

-- what is in the place of a step after the last one
abbrev none : Step
none = record { before = 0; spec = record { name = 0; form = 0; implicit = None } }

pub loop-step-init : goal.loop-step-init
loop-step-init c specs are = record { left = specs; are = are; same = refl }

pub loop-step-preserved : goal.loop-step-preserved
loop-step-preserved c specs are =
    let steps = c.args.steps.now in
    let i = c.loop-step.step-index in
    let all = values_behind specs c.args.cursor.now in
    let leads = subst (λ (left : List Step). Leads left c.args.rest c.loop-step.cursor all) (drop_more steps i none c.loop-step-test.true) (c.loop-step.invariant specs are) in
    leads-on (get_or steps i none) (drop (i + 1) steps) c.args.rest c.loop-step.cursor c.read.new.cursor all (value_shown c.in_ok-read.field-0) leads c.in_ok-read.ensures

pub returns-in_err-read : goal.returns-in_err-read
returns-in_err-read c specs are =
    let steps = c.args.steps.now in
    let i = c.loop-step.step-index in
    let all = values_behind specs c.args.cursor.now in
    let leads = subst (λ (left : List Step). Leads left c.args.rest c.loop-step.cursor all) (drop_more steps i none c.loop-step-test.true) (c.loop-step.invariant specs are) in
    let p = err_from_is_err_and c.from_residual.result c.from_residual.ensures.1 in
    rw (p.1) (leads-to-fault (get_or steps i none) (drop (i + 1) steps) c.args.rest c.loop-step.cursor all (form_fault c.in_err-read.field-0.0) (form_fault p.0) (ap form_fault p.2) leads c.in_err-read.ensures)

pub returns-in_default : goal.returns-in_default
returns-in_default c specs are =
    let left = drop c.loop-step.step-index c.args.steps.now in
    let rest = leads-to-rest left c.args.rest c.loop-step.cursor (values_behind specs c.args.cursor.now) (drop_all c.loop-step.step-index c.args.steps.now c.loop-step-test.false) (c.loop-step.invariant specs are) in
    sym rest ∙ ap (λ (taken : Option (List ℕ × Place)). place_behind (ok_or taken ends_early)) c.in_default.ensures.0

pub returns : goal.returns
returns c specs are =
    let left = drop c.loop-step.step-index c.args.steps.now in
    let rest = leads-to-rest left c.args.rest c.loop-step.cursor (values_behind specs c.args.cursor.now) (drop_all c.loop-step.step-index c.args.steps.now c.loop-step-test.false) (c.loop-step.invariant specs are) in
    sym rest ∙ ap (λ (taken : Option (List ℕ × Place)). place_behind (ok_or taken ends_early)) c.in-Some.ensures
