use Rattle.std.proofs.Common.{◌∙◌, ◌++◌, ◌∷◌, [], List, ap, map, sym}
use Rattle.std.proofs.lemmas.List.{append_assoc, append-nil, map-append}
use Rattle.dw_model.specs.Abbrev.{Specification}
use Rattle.dw_forms.specs.Spec.{spec_shown}
use Rattle.dw_forms.proofs.FirstValueLemmas.{fewer}
use Rattle.dw_forms.proofs.layout.decoded.Goals as goal

pub loop-spec-init : goal.loop-spec-init
loop-spec-init c = rw (c.new-list.ensures.items) c.fork-left.ensures

pub loop-spec-smaller : goal.loop-spec-smaller
loop-spec-smaller c = fewer c.loop-spec.left c.take_first.new.self c.in-Some.spec c.in-Some.ensures

pub loop-spec-preserved : goal.loop-spec-preserved
loop-spec-preserved c =
    rw (c.in_ok-push.ensures.ok) (ap (λ (front : List Specification). front ++ c.take_first.new.self) (map-append spec_shown c.loop-spec.list.items (c.in-Some.spec ∷ []))
    ∙ append_assoc (map spec_shown c.loop-spec.list.items) (spec_shown c.in-Some.spec ∷ []) c.take_first.new.self
    ∙ sym (ap (λ (left : List Specification). map spec_shown c.loop-spec.list.items ++ left) c.in-Some.ensures) ∙ c.loop-spec.invariant)

pub returns : goal.returns
returns c =
    sym (append-nil (map spec_shown c.loop-spec.list.items)) ∙ sym (ap (λ (left : List Specification). map spec_shown c.loop-spec.list.items ++ left) c.in_default.ensures.0) ∙ c.loop-spec.invariant
