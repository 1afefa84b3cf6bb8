use Rattle.std.proofs.Common.{◌∙◌, ap, sym}
use Rattle.dw_bytes.specs.Width.{size_of}
use Rattle.dw_forms.specs.Named.{value_up_to}
use Rattle.dw_forms.specs.Shape.{specs_of}
use Rattle.dw_forms.specs.declared.shape.Shape.{Shape}
use Rattle.dw_forms.proofs.FirstValueLemmas.{read-named}
use Rattle.dw_forms.proofs.shape.Shape.first_value.Goals as goal

pub returns-in-Declared-clause-read : goal.returns-in-Declared-clause-read
returns-in-Declared-clause-read c found e =
    c.first_value-in-Declared.ensures
    ∙ ap (λ (shape : Shape). value_up_to (size_of c.args.width) c.args.name (specs_of shape) c.args.values.now) (sym c.in-Declared.is)
    ∙ read-named (size_of c.args.width) c.args.name (specs_of c.args.self) c.args.values.now found e
