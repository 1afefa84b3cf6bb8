-- Of the attributes that a declaration asks for, those that entries need.
use Rattle.std.specs.Prelude.{◌≡◌, ◌==◌, ℕ, Bool, List, Option, Some, true, find, is_some, map}
use Rattle.std.specs.Global.{Box, Vec}
use Rattle.dw_model.specs.Reading.{Place}
use Rattle.dw_model.specs.Abbrev.{Specification}
use Rattle.dw_model.specs.Entry.{attributes_at}
use Rattle.dw_forms.specs.Named.{first_named, value_up_to}
use Rattle.dw_forms.specs.Names.{is_used}
use Rattle.dw_forms.specs.Size.{place_behind}
use Rattle.dw_forms.specs.Spec.{spec_shown}
use Rattle.dw_forms.specs.declared.declaration.Spec.{Spec}

-- Entries are read alike by some attributes as by all: reading goes as far, or has the same fault;
-- and of each name that is used the first value is the same, where one is declared.
pub record AreAlike (needed all : List Specification) : Type 0 where
  pub behind : (size : ℕ) (p : Place)
      → place_behind (attributes_at size needed p) ≡ place_behind (attributes_at size all p)
  pub values : (size name : ℕ) (p : Place) → is_used name ≡ true
      → value_up_to size name needed p ≡ value_up_to size name all p
  pub declared : (name : ℕ) → is_used name ≡ true
      → is_some (first_named name needed) ≡ is_some (first_named name all)

-- a name is one of these
abbrev pub is_among : ℕ → List ℕ → Bool
is_among name names = is_some (find (λ other. other == name) names)

-- Where some are listed, they are alike to all.
abbrev pub AreListed : Option (Box (Vec Spec)) → List Specification → Type 0
AreListed few all = (list : Box (Vec Spec)) → few ≡ Some list → AreAlike (map spec_shown list.value.items) all
