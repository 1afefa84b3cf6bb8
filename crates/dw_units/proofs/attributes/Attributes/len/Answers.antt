use Rattle.std.proofs.Common.{◌∙◌, List, length, sym, ap}
use Rattle.dw_model.specs.Entry.{Attribute}
use Rattle.dw_bytes.specs.Width.{size_of}
use Rattle.dw_units.specs.View.{attributes_in}
use Rattle.dw_units.proofs.KeptLemmas.{counted-all}
use Rattle.dw_units.proofs.attributes.Attributes.len.Goals as goal

pub returns : goal.returns
returns c =
    let inside = c.self.inside in
    let read = c.self.invariant.readable in
    c.len.ensures ∙ counted-all (size_of inside.width) inside.specs inside.values read.0 read.1 ∙ ap (λ (all : List Attribute). length all) (sym (ap attributes_in read.1) ∙ c.self.view_is)
