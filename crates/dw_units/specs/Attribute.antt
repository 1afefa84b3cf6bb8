-- An attribute as the definitions have it.
use Rattle.dw_model.specs.Entry as model
use Rattle.dw_forms.specs.Value.{value_shown}
use Rattle.dw_units.specs.declared.attributes.Attribute.{Attribute}

abbrev pub attribute_shown : Attribute → model.Attribute
attribute_shown attribute = record { name = attribute.name; value = value_shown attribute.value }
