-- The first value of a name, read one by one.
use Rattle.std.proofs.Common.{◌≡◌, ℕ, ◌<◌, List, [], ◌∷◌, length, Option, Some, None, Result, Ok, refl, ap, arith}
use Rattle.std.proofs.lemmas.Bool.{eq-eqb, ne_eqb}
use Rattle.dw_model.specs.Answers.{Tells}
use Rattle.dw_model.specs.Reading.{Place}
use Rattle.dw_model.specs.Faults.{Fault}
use Rattle.dw_model.specs.Form.{Value, value_at}
use Rattle.dw_model.specs.Abbrev.{Specification}
use Rattle.dw_model.specs.Entry.{Attribute, attributes_at}
use Rattle.dw_model.proofs.StepLemmas.{bind_ok, ok_is}
use Rattle.dw_forms.specs.declared.declaration.Spec.{Spec}
use Rattle.dw_forms.specs.Declaration.{spec_shown}
use Rattle.dw_forms.specs.Named.{first_named, value_named, value_up_to}

abbrev pub Read : Type 0
Read = Result (List Attribute × Place) Fault

-- fewer are left once the first was taken away
pub fewer : (left rest : List Specification) (spec : Spec) → left ≡ spec_shown spec ∷ rest → length rest < length left
fewer left rest spec first = grind arith

-- what the first specification asks for, where all can be read
pub first-read : (size : ℕ) (one : Specification) (others : List Specification) (p : Place) (found : List Attribute × Place) → attributes_at size (one ∷ others) p ≡ Ok found
    → (value : Value × Place) × (value_at size one.form one.constant p ≡ Ok value) × (rest : List Attribute × Place) × (attributes_at size others value.1 ≡ Ok rest) × (found.0 ≡ record { name = one.name; value = value.0 } ∷ rest.0)
unfolding attributes_at
first-read size one others p found e = grind (arith, bind_ok, ok_is)

module _ (size name : ℕ) where
  -- the first value is of the name
  pub up-to-here : (one : Specification) (others : List Specification) (p q : Place) (v : Value) → value_at size one.form one.constant p ≡ Ok (v, q) → one.name ≡ name → value_up_to size name (one ∷ others) p ≡ Some v
  unfolding value_up_to
  up-to-here one others p q v e same = rw (e, eq-eqb one.name name same) refl

  -- it is of another name
  pub up-to-later : (one : Specification) (others : List Specification) (p q : Place) (v : Value) → value_at size one.form one.constant p ≡ Ok (v, q) → (one.name ≡ name → ⊥) → value_up_to size name (one ∷ others) p ≡ value_up_to size name others q
  unfolding value_up_to
  up-to-later one others p q v e apart = rw (e, ne_eqb one.name name apart) refl

  -- it can't be read
  pub up-to-fault : (one : Specification) (others : List Specification) (p : Place) (told : Option Fault) → Tells told (value_at size one.form one.constant p) → None ≡ value_up_to size name (one ∷ others) p
  unfolding value_up_to
  up-to-fault one others p told fault = grind arith

  -- none is left
  pub up-to-none : (p : Place) → None ≡ value_up_to size name [] p
  unfolding value_up_to
  up-to-none p = refl

  -- the name isn't declared
  pub undeclared : (specs : List Specification) (p : Place) → first_named name specs ≡ None → None ≡ value_up_to size name specs p
  unfolding value_up_to
  undeclared [] p none = refl
  undeclared (one ∷ others) p none = grind (arith, undeclared others)

  -- all values can be read
  pub read-named : (specs : List Specification) (p : Place) (found : List Attribute × Place) → attributes_at size specs p ≡ Ok found → value_up_to size name specs p ≡ value_named name found.0
  unfolding value_up_to attributes_at
  read-named [] p found e = ap (λ (x : List Attribute × Place). value_named name x.0) (ok_is ([], p) found e)
  read-named (one ∷ others) p found e = grind (arith, first-read, read-named others)
