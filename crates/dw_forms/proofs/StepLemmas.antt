-- Values of an entry, from one step to the next.
use Rattle.std.proofs.Common.{◌≡◌, ◌∙◌, ℕ, ◌+◌, Bool, true, false, cond, List, [], ◌∷◌, ◌++◌, length, take, Option, Some, None, Ok, refl, sym, ap, append_assoc, arith}
use Rattle.std.specs.Prelude.{MatchOption, is_some, option_and_then, ◌==◌, ◌&&◌, ◌||◌}
use Rattle.std.specs.Option.{option_or}
use Rattle.std.specs.Result.{result_ok}
use Rattle.std.proofs.lemmas.Bool.{eq-eqb, eqb-true, ne_eqb}
use Rattle.std.proofs.lemmas.List.{length_push, take-append-le, take_all}
use Rattle.std.proofs.lemmas.Option.{same_Some}
use Rattle.dw_model.specs.declared.dwarf.TheConstants.{DW_AT_high_pc, DW_AT_low_pc, DW_AT_ranges, OFFSET_SIZE_32}
use Rattle.dw_model.specs.Results.{◌>>=◌}
use Rattle.dw_model.specs.Faults.{Fault}
use Rattle.dw_model.specs.Reading as reading
use Rattle.dw_model.specs.Reading.{bytes_at}
use Rattle.dw_model.specs.Form.{Value, value_at}
use Rattle.dw_model.specs.Abbrev.{Specification}
use Rattle.dw_model.specs.Answers.{Tells}
use Rattle.dw_model.specs.Entry.{attributes_at}
use Rattle.dw_forms.specs.Named.{first_named, value_up_to}
use Rattle.dw_forms.specs.Names.{is_used}
use Rattle.dw_forms.specs.Size.{place_behind, value_size, values_size}
use Rattle.dw_forms.specs.Spec.{spec_shown}
use Rattle.dw_forms.specs.Ranged.{may_have_ranges}
use Rattle.dw_forms.specs.Steps.{find_place, step_value, ArePlaces, AreSteps, IsPlaced}
use Rattle.dw_forms.specs.declared.declaration.Spec.{Spec}
use Rattle.dw_forms.specs.declared.steps.Step.{Step}
use Rattle.dw_forms.specs.declared.places.Place.{Place}
use Rattle.dw_forms.specs.declared.places.Places.{Places}
use Rattle.dw_forms.proofs.FirstValueLemmas.{undeclared, up-to-fault, up-to-here}
use Rattle.dw_forms.proofs.SizeLemmas.{Behind, behind-cons, bytes_behind, same-behind, summed, values-skip}

-- what is left of an entry
abbrev pub values_behind : List Specification → reading.Place → Behind
values_behind specs p = place_behind (attributes_at OFFSET_SIZE_32 specs p)

in-turn : (read : Behind) (f g : Unit {0} × reading.Place → Behind) → ((read >>= f) >>= g) ≡ (read >>= λ q. f q >>= g)
in-turn read f g = grind arith

first-then : (one : Specification) (others : List Specification) (p : reading.Place) → values_behind (one ∷ others) p ≡ (place_behind (value_at OFFSET_SIZE_32 one.form one.constant p) >>= λ q. values_behind others q.1)
unfolding attributes_at
first-then one others p = behind-cons one.name (value_at OFFSET_SIZE_32 one.form one.constant p) (attributes_at OFFSET_SIZE_32 others)

-- some, and then the others
both-behind : (before after : List Specification) (p : reading.Place) → values_behind (before ++ after) p ≡ (values_behind before p >>= λ q. values_behind after q.1)
unfolding attributes_at
both-behind [] after p = refl
both-behind (one ∷ before) after p = grind (arith, first-then, same-behind, in-turn, both-behind before after)

step-behind : (step : Step) (p : reading.Place) → place_behind (step_value step p) ≡ (bytes_behind step.before p >>= λ q. place_behind (value_at OFFSET_SIZE_32 step.spec.form step.spec.implicit q.1))
step-behind step p = grind arith

-- what is left is a step, and then the others
step-then : (step : Step) (before after : List Specification) (p : reading.Place) → values_size OFFSET_SIZE_32 before ≡ Some step.before → values_behind (before ++ spec_shown step.spec ∷ after) p ≡ (place_behind (step_value step p) >>= λ q. values_behind after q.1)
step-then step before after p passed =
    grind (arith, both-behind, values-skip, same-behind, bytes_behind, first-then, in-turn, step-behind)

-- ---- passed one after the other

-- what is left ends where all do
pub record Leads (steps : List Step) (rest : ℕ) (p : reading.Place) (all : Behind) : Type 0 where
  pub left : List Specification
  pub are : AreSteps steps rest left
  pub same : values_behind left p ≡ all

pub leads-on : (step : Step) (steps : List Step) (rest : ℕ) (p q : reading.Place) (all : Behind) (v : Value) → Leads (step ∷ steps) rest p all → step_value step p ≡ Ok (v, q) → Leads steps rest q all
leads-on step steps rest p q all v leads e = grind (arith, step-then)

pub leads-to-fault : (step : Step) (steps : List Step) (rest : ℕ) (p : reading.Place) (all : Behind) (told own : Option Fault) → own ≡ told → Leads (step ∷ steps) rest p all → Tells told (step_value step p) → Tells own all
leads-to-fault step steps rest p all told own same leads fault = grind (arith, step-then)

pub leads-to-rest : (steps : List Step) (rest : ℕ) (p : reading.Place) (all : Behind) → steps ≡ [] → Leads steps rest p all → bytes_behind rest p ≡ all
leads-to-rest steps rest p all none leads = grind (arith, values-skip)

-- without steps all are passed at once
pub fixed-before : (steps : List Step) (count rest : ℕ) (specs : List Specification) (p : reading.Place) → count ≡ 0 → AreSteps (take count steps) rest specs → bytes_behind rest p ≡ values_behind specs p
fixed-before steps count rest specs p none are = grind (arith, values-skip)

-- ---- the first value of a name

-- a name is sought behind values of others
up-to-behind : (name : ℕ) (before after : List Specification) (p : reading.Place) → first_named name before ≡ None → value_up_to OFFSET_SIZE_32 name (before ++ after) p ≡ option_and_then (λ q. value_up_to OFFSET_SIZE_32 name after q.1) (result_ok (values_behind before p))
unfolding value_up_to attributes_at
up-to-behind name [] after p none = refl
up-to-behind name (one ∷ before) after p none = grind (arith, first-then, up-to-behind name before after)

module _ (steps : List Step) (name : ℕ) (place : Place) (specs : List Specification) (placed : IsPlaced steps name place specs) (p : reading.Place) where
  abbrev pub front : List Specification
  front = placed.0

  from : value_up_to OFFSET_SIZE_32 name specs p ≡ option_and_then (λ q. value_up_to OFFSET_SIZE_32 name (spec_shown place.spec ∷ placed.1) q.1) (result_ok (values_behind front p))
  from = grind (arith, up-to-behind)

  -- it isn't reached
  pub placed-fault : (told : Option Fault) → Tells told (values_behind front p) → None ≡ value_up_to OFFSET_SIZE_32 name specs p
  placed-fault told fault = grind (arith, from, Behind)

  -- it is
  reached : (q : reading.Place) → values_behind front p ≡ Ok (tt, q) → value_up_to OFFSET_SIZE_32 name specs p ≡ value_up_to OFFSET_SIZE_32 name (spec_shown place.spec ∷ placed.1) q
  reached q e = from ∙ ap (λ (read : Behind). option_and_then (λ q. value_up_to OFFSET_SIZE_32 name (spec_shown place.spec ∷ placed.1) q.1) (result_ok read)) e

  pub placed-here : (q r : reading.Place) (v : Value) → values_behind front p ≡ Ok (tt, q) → value_at OFFSET_SIZE_32 place.spec.form place.spec.implicit q ≡ Ok (v, r) → Some v ≡ value_up_to OFFSET_SIZE_32 name specs p
  placed-here q r v e read = sym (reached q e ∙ up-to-here OFFSET_SIZE_32 name (spec_shown place.spec) placed.1 q r v read placed.3)

  pub placed-unread : (q : reading.Place) (told : Option Fault) → values_behind front p ≡ Ok (tt, q) → Tells told (value_at OFFSET_SIZE_32 place.spec.form place.spec.implicit q) → None ≡ value_up_to OFFSET_SIZE_32 name specs p
  placed-unread q told e fault = up-to-fault OFFSET_SIZE_32 name (spec_shown place.spec) placed.1 q told fault ∙ sym (reached q e)

pub place-found : (steps : List Step) (places : List Place) (name : ℕ) (specs : List Specification) (place : Place) → ArePlaces steps places specs → is_used name ≡ true → find_place name places ≡ Some place → IsPlaced steps name place specs
place-found steps places name specs place are used e = grind (arith, same_Some)

pub place-none : (size : ℕ) (steps : List Step) (places : List Place) (name : ℕ) (specs : List Specification) (p : reading.Place) → ArePlaces steps places specs → is_used name ≡ true → find_place name places ≡ None → None ≡ value_up_to size name specs p
place-none size steps places name specs p are used e = grind (arith, undeclared)

pub first-behind : (name : ℕ) (front back : List Specification) (one : Specification) → one.name ≡ name → is_some (first_named name (front ++ one ∷ back)) ≡ true
first-behind name [] back one same = rw (eq-eqb one.name name same) refl
first-behind name (first ∷ front) back one same = grind (arith, first-behind name front back one same)

-- what has a place is declared
pub place-declared : (steps : List Step) (places : List Place) (name : ℕ) (specs : List Specification) → ArePlaces steps places specs → is_used name ≡ true → is_some (find_place name places) ≡ is_some (first_named name specs)
place-declared steps places name specs are used = grind (arith, first-behind)

pub ranged_is : (places : Places) (specs : List Specification) → ArePlaces places.steps.items places.list.items specs
    → (is_some (find_place DW_AT_ranges places.list.items) || (is_some (find_place DW_AT_low_pc places.list.items) && is_some (find_place DW_AT_high_pc places.list.items))) ≡ may_have_ranges specs
ranged_is places specs are =
    let declared = λ (name : ℕ) (used : is_used name ≡ true). place-declared places.steps.items places.list.items name specs are used in
    rw (declared DW_AT_low_pc refl, declared DW_AT_high_pc refl, declared DW_AT_ranges refl) refl

-- ---- how places are found

-- one more value is passed
pub pass-more : (steps : List Step) (rest m sum : ℕ) (specs : List Specification) (one : Specification) → value_size OFFSET_SIZE_32 one ≡ Some m → sum ≡ rest + m → AreSteps steps rest specs → AreSteps steps sum (specs ++ one ∷ [])
pass-more [] rest m sum specs one e is are = sizes specs rest are ∙ ap Some (sym is)
  where
    sizes : (specs : List Specification) (size : ℕ) → values_size OFFSET_SIZE_32 specs ≡ Some size → values_size OFFSET_SIZE_32 (specs ++ one ∷ []) ≡ Some (size + m)
    sizes [] size none = grind (arith, same_Some)
    sizes (first ∷ specs) size some =
        let parts = summed OFFSET_SIZE_32 (value_size OFFSET_SIZE_32 first) (values_size OFFSET_SIZE_32 specs) size some in
        rw (parts.2, sizes specs parts.1 parts.3) (ap Some (omega (arith, parts.4)))
pass-more (step ∷ steps) rest m sum specs one e is are =
    (are.0, are.1 ++ one ∷ [], ap (λ (specs : List Specification). specs ++ one ∷ []) are.2 ∙ append_assoc are.0 (spec_shown step.spec ∷ are.1) (one ∷ []), are.3, pass-more steps rest m sum are.1 one e is are.4)

-- one more is a step
pub step-more : (steps : List Step) (rest : ℕ) (specs : List Specification) (spec : Spec) → AreSteps steps rest specs → AreSteps (steps ++ record { before = rest; spec = spec } ∷ []) 0 (specs ++ spec_shown spec ∷ [])
step-more [] rest specs spec are = (specs, [], refl, are, refl)
step-more (step ∷ steps) rest specs spec are = grind (arith, append_assoc, step-more steps rest are.1 spec are.4)

-- places stay where they are
pub places-still : (steps : List Step) (step : Step) (places : List Place) (specs : List Specification) → ArePlaces steps places specs → ArePlaces (steps ++ step ∷ []) places specs
places-still steps step places specs are name used = grind (arith, length_push, take-append-le)

module _ (steps : List Step) (places : List Place) (specs : List Specification) (one : Specification) (are : ArePlaces steps places specs) where
  none-more : (name : ℕ) → (one.name == name) ≡ false → (specs : List Specification) → first_named name specs ≡ None → first_named name (specs ++ one ∷ []) ≡ None
  none-more name apart [] none = rw apart refl
  none-more name apart (first ∷ specs) none = grind (arith, none-more name apart specs)

  placed-more : (name : ℕ) (place : Place) → IsPlaced steps name place specs → IsPlaced steps name place (specs ++ one ∷ [])
  placed-more name place h =
      (h.0, h.1 ++ one ∷ [], ap (λ (specs : List Specification). specs ++ one ∷ []) h.2 ∙ append_assoc h.0 (spec_shown place.spec ∷ h.1) (one ∷ []), h.3, h.4, h.5, h.6)

  -- one more is the first of no name that is used
  pub places-other : ((name : ℕ) → is_used name ≡ true → find_place name places ≡ None → (one.name == name) ≡ false) → ArePlaces steps places (specs ++ one ∷ [])
  places-other other name used = grind (arith, none-more, placed-more)

  pub places-unused : is_used one.name ≡ false → ArePlaces steps places (specs ++ one ∷ [])
  places-unused unused = places-other (λ name used none. ne_eqb one.name name (λ same.
      let both : true ≡ false = sym used ∙ ap is_used (sym same) ∙ unused in absurd cc))

  pub places-known : (known : Place) → find_place one.name places ≡ Some known → ArePlaces steps places (specs ++ one ∷ [])
  places-known known found = grind (arith, places-other, ne_eqb)

-- one more is the first of its name
pub places-new : (steps : List Step) (places : List Place) (specs : List Specification) (new : Place) → ArePlaces steps places specs → find_place new.spec.name places ≡ None → AreSteps steps new.offset specs → length steps ≡ new.count → ArePlaces steps (places ++ new ∷ []) (specs ++ spec_shown new.spec ∷ [])
places-new steps places specs new are fresh at counted name used = rw (appended places) (by (find_place name places) refl (new.spec.name == name) refl (are name used))
  where
    appended : (places : List Place) → find_place name (places ++ new ∷ []) ≡ option_or (find_place name places) (cond (new.spec.name == name) (Some new) None)
    appended [] = refl
    appended (one ∷ places) = grind (arith, appended places)

    by : (found : Option Place) → find_place name places ≡ found → (here : Bool) → (new.spec.name == name) ≡ here → MatchOption found (first_named name specs ≡ None) (λ place. IsPlaced steps name place specs)
        → MatchOption (option_or found (cond here (Some new) None)) (first_named name (specs ++ spec_shown new.spec ∷ []) ≡ None) (λ place. IsPlaced steps name place (specs ++ spec_shown new.spec ∷ []))
    by (Some place) e here same h = placed-more steps places specs (spec_shown new.spec) are name place h
    by None e false other h = none-more steps places specs (spec_shown new.spec) are name other specs h
    by None e true same h = grind (arith, take_all, eqb-true)
