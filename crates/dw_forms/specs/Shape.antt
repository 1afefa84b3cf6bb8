-- What is asked for of the values of an entry.
use Rattle.std.specs.Prelude.{List}
use Rattle.dw_model.specs.Abbrev.{Specification}
use Rattle.dw_forms.specs.declared.shape.Shape.{Shape}
use Rattle.dw_forms.specs.declared.shape.Shape.TheVariants.{Laid, Declared}

abbrev pub specs_of : Shape → List Specification
specs_of (Laid layout) = layout.now
specs_of (Declared declaration) = declaration.now.specs
