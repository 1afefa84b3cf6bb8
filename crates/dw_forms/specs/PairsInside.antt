-- What the attributes of a declaration are seen as.
use Rattle.std.specs.Prelude.{List, map}
use Rattle.dw_model.specs.Abbrev.{Specification}
use Rattle.dw_forms.specs.declared.pairs.Source.{Source}
use Rattle.dw_forms.specs.declared.pairs.Source.TheVariants as source
use Rattle.dw_forms.specs.declared.pairs.Specs.TheInside.{Inside}
use Rattle.dw_forms.specs.Pairs.{specs_at, AreAt}
use Rattle.dw_forms.specs.Spec.{spec_shown}

abbrev pub specs_of : Source → List Specification
specs_of (source.Pairs pairs) = specs_at pairs.place
specs_of (source.List list) = map spec_shown list.now

abbrev pub AreReadable : Source → Type 0
AreReadable (source.Pairs pairs) = AreAt pairs.place pairs.count
AreReadable (source.List list) = Unit {0}

abbrev pub specs_in : Inside → List Specification
specs_in specs = specs_of specs.source

abbrev pub AreRead : Inside → Type 0
AreRead specs = AreReadable specs.source
