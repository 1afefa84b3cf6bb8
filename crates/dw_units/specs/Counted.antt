-- The attributes of an entry whose values count.
use Rattle.std.specs.Prelude.{◌≡◌, ◌==◌, ℕ, true, false, List, map, Option}
use Rattle.std.specs.Prelude.{option_map, find, nat_eq, IsSome}
use Rattle.std.specs.List.{IsDistinct}
use Rattle.std.specs.Set.{is_member}
use Rattle.dw_model.specs.Form.{Value}
use Rattle.dw_model.specs.Entry as model
use Rattle.dw_model.specs.Entry.{attribute, classes}
use Rattle.dw_units.specs.declared.attributes.Attribute.{Attribute}
use Rattle.dw_units.specs.Attribute.{attribute_shown}

-- the value of the first attribute of a name
abbrev pub first_of : ℕ → List model.Attribute → Option Value
first_of name attributes =
    option_map (λ (first : model.Attribute). first.value)
    (find (λ (first : model.Attribute). first.name == name) attributes)

-- the same where it counts for the name
abbrev pub attribute_in : ℕ → List model.Attribute → Option Value
attribute_in name attributes =
    attribute name (record { offset = 0; tag = 0; children = false; attributes = attributes })

-- Of each name, what is kept has just the value of the first attribute, where that counts.
abbrev pub AreCounted : List model.Attribute → (kept : List Attribute) → Type 0
AreCounted attributes kept = (name : ℕ) → first_of name (map attribute_shown kept) ≡ attribute_in name attributes

-- names, no two of which are equal, of each of which an attribute counts
pub record AllCount (attributes : List model.Attribute) (names : List ℕ) : Type 0 where
  pub distinct : IsDistinct nat_eq names
  pub each : (name : ℕ) → is_member nat_eq names name ≡ true → IsSome (attribute_in name attributes)
