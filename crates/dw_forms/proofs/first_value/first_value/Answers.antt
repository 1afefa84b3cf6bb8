use Rattle.std.proofs.Common.{◌∙◌, List, ap, sym}
use Rattle.dw_model.specs.Abbrev.{Specification}
use Rattle.dw_bytes.specs.Width.{size_of}
use Rattle.dw_forms.specs.Fault.{form_fault}
use Rattle.dw_forms.specs.Named.{value_up_to}
use Rattle.dw_forms.specs.Spec.{spec_shown}
use Rattle.dw_forms.specs.Value.{value_shown}
use Rattle.dw_forms.proofs.FirstValueLemmas.{fewer, up-to-fault, up-to-here, up-to-later, up-to-none}
use Rattle.dw_forms.proofs.first_value.first_value.Goals as goal

pub loop-spec-init : goal.loop-spec-init
loop-spec-init c = ap (λ (left : List Specification). value_up_to (size_of c.args.width) c.args.name left c.args.values.now) c.fork-left.ensures

pub loop-spec-smaller : goal.loop-spec-smaller
loop-spec-smaller c = fewer c.loop-spec.left c.take_first.new.self c.in-Some.spec c.in-Some.ensures

pub returns-in_default-read_value : goal.returns-in_default-read_value
returns-in_default-read_value c =
    up-to-fault (size_of c.args.width) c.args.name (spec_shown c.in-Some.spec) c.take_first.new.self c.loop-spec.values (form_fault c.in_default-read_value.field-0) c.in_default-read_value.ensures.0
    ∙ sym (ap (λ (left : List Specification). value_up_to (size_of c.args.width) c.args.name left c.loop-spec.values) c.in-Some.ensures) ∙ c.loop-spec.invariant

pub returns-then-spec-name : goal.returns-then-spec-name
returns-then-spec-name c =
    sym (up-to-here (size_of c.args.width) c.args.name (spec_shown c.in-Some.spec) c.take_first.new.self c.loop-spec.values c.read_value.new.cursor (value_shown c.in-Ok.value) c.in-Ok.ensures c.if-spec-name.true)
    ∙ sym (ap (λ (left : List Specification). value_up_to (size_of c.args.width) c.args.name left c.loop-spec.values) c.in-Some.ensures) ∙ c.loop-spec.invariant

pub loop-spec-preserved : goal.loop-spec-preserved
loop-spec-preserved c =
    sym (up-to-later (size_of c.args.width) c.args.name (spec_shown c.in-Some.spec) c.take_first.new.self c.loop-spec.values c.read_value.new.cursor (value_shown c.in-Ok.value) c.in-Ok.ensures c.if-spec-name.false)
    ∙ sym (ap (λ (left : List Specification). value_up_to (size_of c.args.width) c.args.name left c.loop-spec.values) c.in-Some.ensures) ∙ c.loop-spec.invariant

pub returns : goal.returns
returns c =
    up-to-none (size_of c.args.width) c.args.name c.loop-spec.values
    ∙ sym (ap (λ (left : List Specification). value_up_to (size_of c.args.width) c.args.name left c.loop-spec.values) c.in_default.ensures.0) ∙ c.loop-spec.invariant
