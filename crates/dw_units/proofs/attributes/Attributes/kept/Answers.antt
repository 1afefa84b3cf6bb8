use Rattle.std.proofs.Common.{◌∙◌, ◌≤◌, ℕ, length, ap, sym, subst}
use Rattle.dw_units.specs.Counted.{attribute_in}
use Rattle.dw_units.proofs.CountedLemmas.{each-kept}
use Rattle.dw_units.proofs.attributes.Attributes.kept.Goals as goal

pub returns-clause-each : goal.returns-clause-each
returns-clause-each c names count =
    let kept = c.self.inside.counted.items in
    let counted = λ (name : ℕ). c.self.invariant.counted name ∙ ap (attribute_in name) c.self.view_is in
    subst (λ (n : ℕ). length names ≤ n) (sym (c.len.ensures ∙ c.self.inside.counted.ok.0)) (each-kept c.args.self.now kept names counted count)
