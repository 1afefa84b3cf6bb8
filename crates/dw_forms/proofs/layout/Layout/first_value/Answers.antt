use Rattle.std.proofs.Common.{◌∙◌}
use Rattle.dw_bytes.specs.Width.{size_of}
use Rattle.dw_forms.proofs.FirstValueLemmas.{read-named}
use Rattle.dw_forms.proofs.layout.Layout.first_value.Goals as goal

pub returns-clause-read : goal.returns-clause-read
returns-clause-read c found e = c.find.ensures ∙ read-named (size_of c.args.width) c.args.name c.args.self.now c.args.values.now found e
