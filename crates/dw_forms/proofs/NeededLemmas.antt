-- An attribute that entries don't need is left out.
use Rattle.std.proofs.Common.{◌≡◌, ◌∙◌, ◌⊎◌, inl, inr, ℕ, Bool, true, false, List, [], ◌∷◌, ◌++◌, Some, Result, Ok, Err, append_assoc, refl, sym, ap, subst, arith}
use Rattle.std.proofs.lemmas.Bool.{eqb-true}
use Rattle.std.specs.Prelude.{is_some, ◌==◌}
use Rattle.dw_model.specs.declared.dwarf.TheConstants.{DW_AT_high_pc, DW_AT_low_pc, DW_AT_ranges}
use Rattle.dw_model.specs.Results.{◌>>=◌}
use Rattle.dw_forms.specs.Ranged.{may_have_ranges}
use Rattle.dw_model.specs.Faults.{Fault}
use Rattle.dw_model.specs.Reading.{Place}
use Rattle.dw_model.specs.Form.{Value, value_at}
use Rattle.dw_model.specs.Abbrev.{Specification}
use Rattle.dw_model.specs.Entry.{attributes_at}
use Rattle.dw_model.proofs.StepLemmas.{ok_is}
use Rattle.dw_forms.specs.Named.{first_named, value_up_to}
use Rattle.dw_forms.specs.Names.{is_used}
use Rattle.dw_forms.specs.Needed.{is_among, AreAlike}
use Rattle.dw_forms.specs.Size.{place_behind, value_size}
use Rattle.dw_forms.proofs.StepLemmas.{first-behind}
use Rattle.dw_forms.proofs.SizeLemmas.{Behind, behind-cons, same-behind, nothing-read, value-skips}

abbrev values_behind : ℕ → List Specification → Place → Behind
values_behind size specs p = place_behind (attributes_at size specs p)

first-then : (size : ℕ) (one : Specification) (others : List Specification) (p : Place) → values_behind size (one ∷ others) p ≡ (place_behind (value_at size one.form one.constant p) >>= λ q. values_behind size others q.1)
unfolding attributes_at
first-then size one others p = behind-cons one.name (value_at size one.form one.constant p) (attributes_at size others)

pub alike-self : (all : List Specification) → AreAlike all all
alike-self all = record { behind = λ size p. refl; values = λ size name p used. refl; declared = λ name used. refl }

-- an attribute of whose values entries have no bytes
module _ (one : Specification) (none : (size : ℕ) → value_size size one ≡ Some 0) where
  here : (size : ℕ) (p : Place) → place_behind (value_at size one.form one.constant p) ≡ Ok (tt, p)
  here size p = value-skips size one 0 (none size) p ∙ sym (nothing-read size p)

  read-here : (size : ℕ) (p : Place) → (v : Value) × (value_at size one.form one.constant p ≡ Ok (v, p))
  read-here size p = by (value_at size one.form one.constant p) (here size p)
    where
      by : (read : Result (Value × Place) Fault) → place_behind read ≡ Ok (tt, p) → (v : Value) × (read ≡ Ok (v, p))
      by (Ok found) e = (found.0, ap (λ (x : Unit {0} × Place). Ok (found.0, x.1)) (ok_is (tt, found.1) (tt, p) e))
      by (Err fault) e = absurd cc

  behind-out : (size : ℕ) (front back : List Specification) (p : Place) → values_behind size (front ++ back) p ≡ values_behind size (front ++ one ∷ back) p
  behind-out size [] back p = sym (first-then size one back p ∙ ap (λ (read : Behind). read >>= λ q. values_behind size back q.1) (here size p))
  behind-out size (first ∷ front) back p =
      first-then size first (front ++ back) p
      ∙ same-behind (place_behind (value_at size first.form first.constant p)) (λ q. values_behind size (front ++ back) q.1) (λ q. values_behind size (front ++ one ∷ back) q.1) (λ q. behind-out size front back q.1)
      ∙ sym (first-then size first (front ++ one ∷ back) p)

  -- if it has the name, one before it has it
  abbrev IsLater : ℕ → List Specification → Type 0
  IsLater name front = (one.name == name) ≡ true → is_some (first_named name front) ≡ true

  values-out : (size name : ℕ) (front back : List Specification) (p : Place) → IsLater name front → value_up_to size name (front ++ back) p ≡ value_up_to size name (front ++ one ∷ back) p
  unfolding value_up_to
  values-out size name [] back p later = let read = read-here size p in grind arith
  values-out size name (first ∷ front) back p later = grind (arith, values-out size name front back)

  declared-out : (name : ℕ) (front back : List Specification) → IsLater name front → is_some (first_named name (front ++ back)) ≡ is_some (first_named name (front ++ one ∷ back))
  declared-out name [] back later = grind arith
  declared-out name (first ∷ front) back later = grind (arith, declared-out name front back)

  pub left-out : (front back : List Specification) → ((name : ℕ) → is_used name ≡ true → IsLater name front) → AreAlike (front ++ back) (front ++ one ∷ back)
  left-out front back later = record {
    behind = λ size p. behind-out size front back p;
    values = λ size name p used. values-out size name front back p (later name used);
    declared = λ name used. declared-out name front back (later name used);
  }

pub alike-on : (some more all : List Specification) → AreAlike some more → AreAlike more all → AreAlike some all
alike-on some more all a b = record {
  behind = λ size p. a.behind size p ∙ b.behind size p;
  values = λ size name p used. a.values size name p used ∙ b.values size name p used;
  declared = λ name used. a.declared name used ∙ b.declared name used;
}

-- ---- one after the other

abbrev pub AreKnown : List ℕ → List Specification → Type 0
AreKnown names front = (name : ℕ) → is_among name names ≡ true → is_some (first_named name front) ≡ true

-- what is noted of an attribute
abbrev pub IsNoted : Bool → Specification → (old new : List ℕ) → Type 0
IsNoted needed one old new =
    (name : ℕ) → is_among name new ≡ true → (is_among name old ≡ true) ⊎ ((needed ≡ true) × (one.name ≡ name))

pub name-more : (one : ℕ) (old new : List ℕ) → new ≡ old ++ one ∷ [] → (name : ℕ) → is_among name new ≡ true → (is_among name old ≡ true) ⊎ (◌≡◌ {A = Bool} true true × (one ≡ name))
name-more one old new is name among = by old (ap (is_among name) (sym is) ∙ among)
  where
    by : (old : List ℕ) → is_among name (old ++ one ∷ []) ≡ true → (is_among name old ≡ true) ⊎ (◌≡◌ {A = Bool} true true × (one ≡ name))
    by [] e = grind (arith, eqb-true)
    by (first ∷ old) e = grind (arith, by old)

module _ (front left rest all : List Specification) (one : Specification) (old new : List ℕ) (first : left ≡ one ∷ rest) (alike : AreAlike (front ++ left) all) (known : AreKnown old front) where
  all-alike : AreAlike (front ++ one ∷ rest) all
  all-alike = subst (λ (left : List Specification). AreAlike (front ++ left) all) first alike

  pub passed-over : ((size : ℕ) → value_size size one ≡ Some 0) → (is_used one.name ≡ true → is_among one.name old ≡ true) → AreAlike (front ++ rest) all
  passed-over none later =
      alike-on (front ++ rest) (front ++ one ∷ rest) all (left-out one none front rest (λ name used same.
      let is : one.name ≡ name = eqb-true one.name name same in
      subst (λ (name : ℕ). is_some (first_named name front) ≡ true) is (known one.name (later (ap is_used is ∙ used))))) all-alike

  pub known-still : (needed : Bool) → needed ≡ false → IsNoted needed one old new → AreKnown new front
  known-still needed out noted name among = elim (noted name among) [
    | inl was ↦ known name was
    | inr is ↦ (let both : true ≡ false = sym is.0 ∙ out in absurd cc)
  ]

  pub taken : AreAlike ((front ++ one ∷ []) ++ rest) all
  taken = subst (λ (specs : List Specification). AreAlike specs all) (sym (append_assoc front (one ∷ []) rest)) all-alike

  still-first : (name : ℕ) (front : List Specification) → is_some (first_named name front) ≡ true → is_some (first_named name (front ++ one ∷ [])) ≡ true
  still-first name [] some = absurd cc
  still-first name (other ∷ front) some = grind (arith, still-first name front)

  pub known-more : (needed : Bool) → IsNoted needed one old new → AreKnown new (front ++ one ∷ [])
  known-more needed noted name among = elim (noted name among) [
    | inl was ↦ still-first name front (known name was)
    | inr is ↦ first-behind name front [] one is.1
  ]

-- ---- what they are used for

pub ranged-alike : (needed all : List Specification) → AreAlike needed all → may_have_ranges needed ≡ may_have_ranges all
ranged-alike needed all alike =
    rw (alike.declared DW_AT_low_pc refl, alike.declared DW_AT_high_pc refl, alike.declared DW_AT_ranges refl) refl
