use Rattle.std.proofs.Common.{◌∙◌, List, ap, sym}
use Rattle.std.specs.Prelude.{is_some}
use Rattle.dw_model.specs.Abbrev.{Specification}
use Rattle.dw_forms.specs.Named.{first_named}
use Rattle.dw_forms.proofs.FirstValueLemmas.{fewer}
use Rattle.dw_forms.proofs.RangedLemmas.{first-is, first-is-not}
use Rattle.dw_forms.proofs.ranged.is_declared.Goals as goal

pub loop-spec-init : goal.loop-spec-init
loop-spec-init c = ap (λ (specs : List Specification). is_some (first_named c.args.name specs)) c.fork-left.ensures

pub loop-spec-smaller : goal.loop-spec-smaller
loop-spec-smaller c = fewer c.loop-spec.left c.take_first.new.self c.in-Some.spec c.in-Some.ensures

pub loop-spec-preserved : goal.loop-spec-preserved
loop-spec-preserved c =
    sym (first-is-not c.args.name c.loop-spec.left c.take_first.new.self c.in-Some.spec c.in-Some.ensures c.if-spec-name.false) ∙ c.loop-spec.invariant

pub returns-then-spec-name : goal.returns-then-spec-name
returns-then-spec-name c =
    sym (first-is c.args.name c.loop-spec.left c.take_first.new.self c.in-Some.spec c.in-Some.ensures c.if-spec-name.true) ∙ c.loop-spec.invariant

pub returns : goal.returns
returns c = sym (ap (λ (specs : List Specification). is_some (first_named c.args.name specs)) c.in_default.ensures.0) ∙ c.loop-spec.invariant
