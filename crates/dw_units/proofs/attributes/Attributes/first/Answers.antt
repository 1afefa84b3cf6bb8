use Rattle.std.proofs.Common.{◌∙◌, sym, ap}
use Rattle.dw_units.specs.Counted.{first_of}
use Rattle.dw_units.specs.View.{attributes_in}
use Rattle.dw_units.proofs.attributes.Attributes.first.Goals as goal

pub returns : goal.returns
returns c =
    let read = c.self.invariant.readable in
    c.first_value.ensures.read read.0 read.1 ∙ ap (first_of c.args.name) (sym (ap attributes_in read.1) ∙ c.self.view_is)
