use Rattle.std.proofs.Common.{◌∙◌, ap}
use Rattle.dw_model.specs.Entry.{attributes_at}
use Rattle.dw_bytes.specs.Width.{size_of}
use Rattle.dw_forms.specs.Shape.{specs_of}
use Rattle.dw_units.proofs.view.view_at.Goals as goal

pub invariant_of-result : goal.invariant_of-result
invariant_of-result c =
    ((c.in_ok-pass_values.ensures.0, c.pass_values.new.cursor), ap (attributes_at (size_of c.args.width) (specs_of c.in_ok-meant.meant.shape)) c.fork-values.ensures ∙ c.in_ok-pass_values.ensures.1)
