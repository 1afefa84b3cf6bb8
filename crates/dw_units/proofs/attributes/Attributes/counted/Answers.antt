use Rattle.std.proofs.Common.{◌∙◌, List, ap}
use Rattle.std.specs.Prelude.{find, ◌==◌}
use Rattle.dw_units.specs.declared.attributes.Attribute.{Attribute}
use Rattle.dw_units.specs.Counted.{attribute_in}
use Rattle.dw_units.proofs.AttrLemmas.{shown-value}
use Rattle.dw_units.proofs.attributes.Attributes.counted.Goals as goal

pub returns-in_err-found : goal.returns-in_err-found
returns-in_err-found c =
    let found = c.in_err-found.ensures ∙ ap (λ (kept : List Attribute). find (λ found. found.name == c.args.name) kept) c.as_slice.ensures.value in
    rw (c.from_residual.ensures) (shown-value c.args.name c.self.inside.counted.items _ found ∙ c.self.invariant.counted c.args.name ∙ ap (attribute_in c.args.name) c.self.view_is)

pub returns : goal.returns
returns c =
    let found = c.in_ok-found.ensures ∙ ap (λ (kept : List Attribute). find (λ found. found.name == c.args.name) kept) c.as_slice.ensures.value in
    shown-value c.args.name c.self.inside.counted.items _ found ∙ c.self.invariant.counted c.args.name ∙ ap (attribute_in c.args.name) c.self.view_is
