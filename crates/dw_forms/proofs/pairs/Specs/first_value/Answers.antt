use Rattle.std.proofs.Common.{◌∙◌, ap}
use Rattle.dw_bytes.specs.Width.{size_of}
use Rattle.dw_forms.specs.Named.{value_up_to}
use Rattle.dw_forms.proofs.FirstValueLemmas.{read-named}
use Rattle.dw_forms.proofs.pairs.Specs.first_value.Goals as goal

pub returns-clause-value : goal.returns-clause-value
returns-clause-value c = c.first_value.ensures ∙ ap (value_up_to (size_of c.args.width) c.args.name c.args.self.now) c.fork.ensures

pub returns-clause-read : goal.returns-clause-read
returns-clause-read c found e =
    c.first_value.ensures ∙ ap (value_up_to (size_of c.args.width) c.args.name c.args.self.now) c.fork.ensures ∙ read-named (size_of c.args.width) c.args.name c.args.self.now c.args.values.now found e
