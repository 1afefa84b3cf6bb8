use Rattle.std.proofs.Common.{◌∙◌, ap, sym}
use Rattle.dw_forms.specs.Ranged.{may_have_ranges}
use Rattle.dw_forms.specs.Shape.{specs_of}
use Rattle.dw_forms.specs.declared.shape.Shape.{Shape}
use Rattle.dw_forms.proofs.NeededLemmas.{ranged-alike}
use Rattle.dw_forms.proofs.RangedLemmas.{names-none}
use Rattle.dw_forms.proofs.shape.Shape.may_have_ranges.Goals as goal

pub returns-in-Declared-clause-right : goal.returns-in-Declared-clause-right
returns-in-Declared-clause-right c none =
    let declaration = c.in-Declared.declaration.now in
    names-none (specs_of c.args.self) (
    ap (λ (shape : Shape). may_have_ranges (specs_of shape)) c.in-Declared.is
    ∙ sym (ranged-alike c.needed.result declaration.specs c.needed.ensures) ∙ sym c.are_ranged.ensures ∙ none)
