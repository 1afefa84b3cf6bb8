use Rattle.std.proofs.Common.{◌∙◌, sym, ap}
use Rattle.dw_model.specs.Entry.{attributes_at}
use Rattle.dw_bytes.specs.Width.{size_of}
use Rattle.dw_units.specs.View.{attributes_in}
use Rattle.dw_units.proofs.attributes.Attributes.to_vec.Goals as goal

pub returns-in-Ok : goal.returns-in-Ok
returns-in-Ok c =
    let inside = c.self.inside in
    let read = ap (attributes_at (size_of inside.width) inside.specs) (sym c.fork.ensures) ∙ c.in-Ok.ensures in
    sym (ap attributes_in read) ∙ c.self.view_is
