-- An attribute's name and form, as the definitions have them.
use Rattle.dw_model.specs.Abbrev as model
use Rattle.dw_forms.specs.declared.declaration.Spec.{Spec}

abbrev pub spec_shown : Spec → model.Specification
spec_shown spec = record { name = spec.name; form = spec.form; constant = spec.implicit }
