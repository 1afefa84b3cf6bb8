-- The attribute of a name, as the code finds it.
use Rattle.std.proofs.Common.{◌≡◌, ℕ, Bool, true, false, cond, List, [], ◌∷◌, map, Option, Some, None, option_map, refl, sym, ap, ◌∙◌, arith}
use Rattle.std.specs.Prelude.{find, nat_eq, ◌==◌, option_and_then}
use Rattle.std.specs.Option.{option_map_or}
use Rattle.std.specs.Map.{lookup}
use Rattle.dw_model.specs.Options.{◌>>=◌, only_if}
use Rattle.dw_model.specs.Form.{Value}
use Rattle.dw_model.specs.Entry.{Attribute, Entry, classes, attribute}
use Rattle.dw_forms.specs.Value.{value_shown}
use Rattle.dw_units.specs.declared.attributes.Attribute.{Attribute as CodeAttribute}
use Rattle.dw_units.specs.Attribute.{attribute_shown}
use Rattle.dw_units.specs.Counted.{attribute_in, first_of}

-- the value counts for the name
abbrev pub Counts : ℕ → Value → Bool
Counts name value = option_map_or (λ counts. counts value) (lookup (nat_eq name) classes) false

-- what is given of a value that was found
abbrev pub given : ℕ → Value → Option Value
given name value = cond (Counts name value) (Some value) None

counted : (name : ℕ) (value : Value) (class : Option (Value → Bool)) → (class >>= λ counts. only_if (counts value) >>= λ _. Some value) ≡ cond (option_map_or (λ counts. counts value) class false) (Some value) None
counted name value class = grind arith

through : (name : ℕ) (o : Option Attribute) → (o >>= λ found. lookup (nat_eq name) classes >>= λ counts. only_if (counts found.value) >>= λ _. Some found.value) ≡ option_and_then (given name) (option_map (λ (found : Attribute). found.value) o)
through name o = grind (arith, counted)

attribute_is : (name : ℕ) (entry : Entry) (value : Option Value) → value ≡ first_of name entry.attributes → attribute name entry ≡ option_and_then (given name) value
unfolding attribute
attribute_is name entry value e = through name (find (λ (found : Attribute). found.name == name) entry.attributes) ∙ ap (option_and_then (given name)) (sym e)

-- the attribute of a name, by the first of the name
pub told : (name : ℕ) (attributes : List Attribute) → attribute_in name attributes ≡ option_and_then (given name) (first_of name attributes)
told name attributes = attribute_is name (record { offset = 0; tag = 0; children = false; attributes = attributes }) (first_of name attributes) refl

pub of-entry : (name : ℕ) (entry : Entry) → attribute_in name entry.attributes ≡ attribute name entry
unfolding attribute
of-entry name entry = refl

pub absent : (name : ℕ) (entry : Entry) → None ≡ first_of name entry.attributes → None ≡ attribute name entry
absent name entry e = sym (attribute_is name entry None e)

pub not_counted : (name : ℕ) (entry : Entry) (value : Value) → Some value ≡ first_of name entry.attributes → Counts name value ≡ false → None ≡ attribute name entry
not_counted name entry value e other = grind (arith, attribute_is)

pub is_given : (name : ℕ) (entry : Entry) (value : Value) → Some value ≡ first_of name entry.attributes → Counts name value ≡ true → Some value ≡ attribute name entry
is_given name entry value e counts = grind (arith, attribute_is)

-- the same of attributes as the code has them
find-shown : (name : ℕ) (attributes : List CodeAttribute) → find (λ (found : Attribute). found.name == name) (map attribute_shown attributes) ≡ option_map attribute_shown (find (λ found. found.name == name) attributes)
find-shown name [] = refl
find-shown name (first ∷ attributes) = grind (arith, find-shown name attributes)

pub shown-value : (name : ℕ) (attributes : List CodeAttribute) (found : Option CodeAttribute) → found ≡ find (λ found. found.name == name) attributes → option_map (λ (found : CodeAttribute). value_shown found.value) found ≡ first_of name (map attribute_shown attributes)
shown-value name attributes found e =
    same found ∙ ap (option_map (λ (first : Attribute). first.value)) (ap (option_map attribute_shown) e ∙ sym (find-shown name attributes))
  where
    same : (found : Option CodeAttribute) → option_map (λ (found : CodeAttribute). value_shown found.value) found ≡ option_map (λ (first : Attribute). first.value) (option_map attribute_shown found)
    same found = grind arith
