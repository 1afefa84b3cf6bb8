-- Reading the attributes of an entry one by one, as a loop does.
use Rattle.std.proofs.Common.{◌≡◌, ℕ, List, [], ◌∷◌, ◌++◌, map, Option, Some, None, Result, Ok, Err, refl, subst, sym, ap, ◌∙◌, append_assoc, arith}
use Rattle.std.specs.Prelude.{MatchOption}
use Rattle.std.proofs.lemmas.List.{append-nil, map_push}
use Rattle.dw_model.specs.Results.{◌>>=◌}
use Rattle.dw_model.specs.Reading.{Place}
use Rattle.dw_model.specs.Faults.{Fault}
use Rattle.dw_model.specs.Form.{Value, value_at}
use Rattle.dw_model.specs.Abbrev.{Specification}
use Rattle.dw_model.specs.Entry.{Attribute, attributes_at}
use Rattle.dw_model.specs.Answers.{Tells}
use Rattle.dw_forms.specs.declared.declaration.Spec.{Spec}
use Rattle.dw_forms.specs.Declaration.{spec_shown}
use Rattle.dw_units.specs.declared.attributes.Attribute.{Attribute as CodeAttribute}
use Rattle.dw_units.specs.Attribute.{attribute_shown}

abbrev Read : Type 0
Read = Result (List Attribute × Place) Fault

abbrev with_front : List Attribute → Read → Read
with_front front read = read >>= λ x. Ok (front ++ x.0, x.1)

module _ (size : ℕ) where
  -- what was read so far, and then what the specifications that are left ask for, is all
  abbrev pub SoFar : List CodeAttribute → List Specification → Place → Read → Type 0
  SoFar front left p all = with_front (map attribute_shown front) (attributes_at size left p) ≡ all

  onto : (front : List Attribute) (item : Attribute) (others : Read) → with_front front (others >>= λ x. Ok (item ∷ x.0, x.1)) ≡ with_front (front ++ item ∷ []) others
  onto front item others = grind (arith, append_assoc)

  pub starts : (left specs : List Specification) (p : Place) → left ≡ specs → SoFar [] left p (attributes_at size specs p)
  starts left specs p same = grind arith

  -- the first of those that are left
  next : (front : List CodeAttribute) (left rest : List Specification) (spec : Spec) (p : Place) (all : Read) → left ≡ spec_shown spec ∷ rest → SoFar front left p all → SoFar front (spec_shown spec ∷ rest) p all
  next front left rest spec p all first so_far = subst (λ (left : List Specification). SoFar front left p all) first so_far

  pub goes_on : (front : List CodeAttribute) (left rest : List Specification) (spec : Spec) (attribute : CodeAttribute) (v : Value) (p q : Place) (all : Read) → left ≡ spec_shown spec ∷ rest → value_at size spec.form spec.implicit p ≡ Ok (v, q)
      → attribute_shown attribute ≡ record { name = spec.name; value = v } → SoFar front left p all → SoFar (front ++ attribute ∷ []) rest q all
  unfolding attributes_at
  goes_on front left rest spec attribute v p q all first e shown so_far =
      let whole = next front left rest spec p all first so_far in
      let others = attributes_at size rest q in
      let read : attributes_at size (spec_shown spec ∷ rest) p ≡ (others >>= λ x. Ok (record { name = spec.name; value = v } ∷ x.0, x.1)) = rw e refl in
      rw (map_push attribute_shown front attribute, shown) (sym (onto (map attribute_shown front) (record { name = spec.name; value = v }) others) ∙ ap (with_front (map attribute_shown front)) (sym read) ∙ whole)

  by_told : (front : List CodeAttribute) (spec : Spec) (others : List Specification) (p : Place) (all : Read) (told : Option Fault) → Tells told (value_at size spec.form spec.implicit p)
      → with_front (map attribute_shown front) (attributes_at size (spec_shown spec ∷ others) p) ≡ all → MatchOption told (Unit {0}) (λ fault. all ≡ Err fault)
  unfolding attributes_at
  by_told front spec others p all told f e = grind arith

  pub stops : (front : List CodeAttribute) (left rest : List Specification) (spec : Spec) (p : Place) (all : Read) (told own : Option Fault) → own ≡ told → left ≡ spec_shown spec ∷ rest → Tells told (value_at size spec.form spec.implicit p) → SoFar front left p all
      → MatchOption own (Unit {0}) (λ fault. all ≡ Err fault)
  stops front left rest spec p all told own same first fault so_far = grind (arith, by_told, next)

  -- the same where no memory was taken
  pub stops-exactly : (front : List CodeAttribute) (left rest : List Specification) (spec : Spec) (p : Place) (all : Read) (told own : Option Fault) → own ≡ told → left ≡ spec_shown spec ∷ rest → Tells told (value_at size spec.form spec.implicit p) → SoFar front left p all
      → Tells own all
  stops-exactly front left rest spec p all None own same first fault so_far = absurd fault
  stops-exactly front left rest spec p all (Some told) own same first fault so_far =
      subst (λ told. Tells told all) (sym same) (stops front left rest spec p all (Some told) (Some told) refl first fault so_far)

  pub ends : (front : List CodeAttribute) (left : List Specification) (p : Place) (all : Read) → left ≡ [] → SoFar front left p all → all ≡ Ok (map attribute_shown front, p)
  unfolding attributes_at
  ends front left p all none so_far = grind (arith, append-nil)
