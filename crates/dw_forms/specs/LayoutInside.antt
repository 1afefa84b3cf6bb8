-- What a layout is seen as.
use Rattle.std.specs.Prelude.{◌≡◌, List, true}
use Rattle.dw_model.specs.Abbrev.{Specification}
use Rattle.dw_forms.specs.Ranged.{may_have_ranges}
use Rattle.dw_forms.specs.Steps.{ArePlaces, AreSteps}
use Rattle.dw_forms.specs.declared.layout.Layout.TheInside.{Inside}

abbrev pub specs_in : Inside → List Specification
specs_in layout = layout.specs

pub record IsLayout (layout : Inside) : Type 0 where
  pub ranged : layout.named ≡ true → layout.ranged ≡ may_have_ranges layout.specs
  pub steps : AreSteps layout.places.steps.items layout.places.rest layout.specs
  pub places : layout.named ≡ true → ArePlaces layout.places.steps.items layout.places.list.items layout.specs
