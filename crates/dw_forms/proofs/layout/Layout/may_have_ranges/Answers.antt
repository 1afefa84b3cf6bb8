use Rattle.std.proofs.Common.{◌∙◌, ap, sym}
use Rattle.dw_forms.specs.Ranged.{may_have_ranges}
use Rattle.dw_forms.proofs.RangedLemmas.{names-none}
use Rattle.dw_forms.proofs.layout.Layout.may_have_ranges.Goals as goal

pub returns-then-not-self-clause-right : goal.returns-then-not-self-clause-right
returns-then-not-self-clause-right c none =
    names-none c.args.self.now (sym (c.are_ranged.ensures ∙ ap may_have_ranges c.self.view_is) ∙ none)

pub returns-clause-right : goal.returns-clause-right
returns-clause-right c none =
    names-none c.args.self.now (sym (c.self.invariant.ranged c.if-not-self.false ∙ ap may_have_ranges c.self.view_is) ∙ none)
