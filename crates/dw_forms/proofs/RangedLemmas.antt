-- Entries whose declarations name no ranges.
use Rattle.std.proofs.Common.{◌≡◌, ◌∙◌, ℕ, true, false, List, ◌∷◌, Option, Some, None, Ok, arith}
use Rattle.std.specs.Prelude.{find, is_some, nat_eq, option_map, ◌==◌}
use Rattle.std.specs.Map.{lookup}
use Rattle.std.proofs.lemmas.Bool.{eq-eqb, ne_eqb, or_parts, or_from, and_left, and_right}
use Rattle.dw_model.specs.Options as options
use Rattle.dw_model.specs.Reading.{Place}
use Rattle.dw_model.specs.Abbrev.{Specification}
use Rattle.dw_model.specs.Entry.{Attribute, Entry, attributes_at, attribute, classes}
use Rattle.dw_forms.specs.declared.declaration.Spec.{Spec}
use Rattle.dw_forms.specs.Declaration.{spec_shown}
use Rattle.dw_forms.specs.Named.{first_named}
use Rattle.dw_forms.specs.Ranged.{may_have_ranges, NamesNone}
use Rattle.dw_forms.proofs.FirstValueLemmas.{read-named, undeclared}

is-none : {A : Type 0} (found : Option A) → is_some found ≡ false → found ≡ None
is-none found e = grind arith

-- an attribute that isn't declared isn't there
not-named : (name size : ℕ) (specifications : List Specification) (p q : Place) (entry : Entry) → attributes_at size specifications p ≡ Ok (entry.attributes, q) → is_some (first_named name specifications) ≡ false → is_some (attribute name entry) ≡ false
unfolding attribute
not-named name size specifications p q entry read none =
    by_found (find (λ (found : Attribute). found.name == name) entry.attributes) (undeclared size name specifications p (is-none (first_named name specifications) none) ∙ read-named size name specifications p (entry.attributes, q) read)
  where
    by_found : (found : Option Attribute) → None ≡ option_map (λ (first : Attribute). first.value) found → is_some (options.◌>>=◌ found λ found. options.◌>>=◌ (lookup (nat_eq name) classes) λ counts. options.◌>>=◌ (options.only_if (counts found.value)) λ _. Some found.value) ≡ false
    by_found found e = grind arith

pub names-none : (specifications : List Specification) → may_have_ranges specifications ≡ false → NamesNone specifications
names-none specifications none size p q entry read = grind (arith, or_parts, or_from, not-named, and_left, and_right)

-- ---- one after the other

pub first-is : (name : ℕ) (left others : List Specification) (spec : Spec) → left ≡ spec_shown spec ∷ others → spec.name ≡ name → is_some (first_named name left) ≡ true
first-is name left others spec e same = grind (arith, eq-eqb)

pub first-is-not : (name : ℕ) (left others : List Specification) (spec : Spec) → left ≡ spec_shown spec ∷ others → (spec.name ≡ name → ⊥) → is_some (first_named name left) ≡ is_some (first_named name others)
first-is-not name left others spec e apart = grind (arith, ne_eqb)
