-- What is told of the entry at a place by its declaration.
use Rattle.std.proofs.Common.{◌≡◌, ◌∙◌, ℕ, Bool, false, List, Option, None, Some, Ok, Err, refl, ap, arith}
use Rattle.std.specs.Prelude.{option_map, ◌==◌}
use Rattle.std.proofs.lemmas.Option.{same_Some}
use Rattle.dw_model.specs.Reading.{Place}
use Rattle.dw_model.specs.Faults.{Fault, undeclared}
use Rattle.dw_model.specs.Answers.{Tells}
use Rattle.dw_model.specs.Leb.{uleb_at}
use Rattle.dw_model.specs.Abbrev.{Declaration, Specification, declared}
use Rattle.dw_model.specs.Entry.{Attribute, attributes_at, entry_at}
use Rattle.dw_forms.specs.Ranged.{may_have_ranges}
use Rattle.dw_units.specs.Entries.{ranged_at}
use Rattle.dw_units.specs.EntriesInside.{function_by, IsReadable}
use Rattle.dw_units.specs.Layouts.{Means}
use Rattle.dw_units.specs.declared.entries.Last.{Last}
use Rattle.dw_units.proofs.PlaceLemmas.{read-entry}

module _ (size : ℕ) (declarations : List Declaration) (code tag : ℕ) (children : Bool) (specs : List Specification) (means : Means (declared declarations code) tag children specs) where
  abbrev declaration : Declaration
  declaration = means.0

  -- the entry that is read
  pub met : (p q r : Place) (attributes : List Attribute) → uleb_at p ≡ Ok (code, q) → (code == 0) ≡ false → attributes_at size specs q ≡ Ok (attributes, r)
      → entry_at size declarations p ≡ Ok (Some (record { offset = p.at; tag = tag; children = children; attributes = attributes }), r)
  met p q r attributes number some read = grind (arith, read-entry)

  pub ranged-is : (p q : Place) → uleb_at p ≡ Ok (code, q) → ranged_at declarations p ≡ may_have_ranges specs
  ranged-is p q read = grind arith

  -- its values can't be read
  pub unread : (p q : Place) (told : Option Fault) → uleb_at p ≡ Ok (code, q) → (code == 0) ≡ false → Tells told (attributes_at size specs q) → Tells told (entry_at size declarations p)
  unfolding entry_at
  unread p q told number some fault = grind arith

-- its code isn't declared
pub unmeant : (size : ℕ) (declarations : List Declaration) (p q : Place) (code : ℕ) → uleb_at p ≡ Ok (code, q) → (code == 0) ≡ false → declared declarations code ≡ None → entry_at size declarations p ≡ Err undeclared
unfolding entry_at
unmeant size declarations p q code number some none = rw (number, some, none) refl

-- ---- the last function

module _ (size : ℕ) (declarations : List Declaration) (last : Last) (tag : ℕ) (children : Bool) (specs : List Specification) (means : Means (declared declarations last.code) tag children specs) (found : List Attribute × Place) (read : attributes_at size specs last.values ≡ Ok found) where
  own : attributes_at size means.0.specifications last.values ≡ Ok found
  own = ap (λ (specs : List Specification). attributes_at size specs last.values) means.4 ∙ read

  pub last-is : option_map (function_by size last) (declared declarations last.code) ≡ Some (record { offset = last.offset; tag = tag; children = children; attributes = found.0 })
  last-is = grind (arith, own)

  pub readable-is : IsReadable declarations size (Some last)
  readable-is other declaration same known = grind (arith, same_Some, own)
