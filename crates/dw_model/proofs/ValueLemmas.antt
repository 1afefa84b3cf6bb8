-- A value is read, through DW_FORM_indirect or not, exactly where a piece of the bytes spells it.
use Rattle.std.proofs.Common.{◌≡◌, ◌⊎◌, inl, inr, ℕ, zero, suc, ◌+◌, ◌<◌, ◌^◌, ℤ, Bool, true, false, cond, List, ◌++◌, length, Option, Some, None, Result, Ok, Err, refl, subst, sym, ap, ◌∙◌, arith}
use Rattle.std.specs.Prelude.{ok_or, nat_eq, ◌==◌}
use Rattle.std.specs.Map.{lookup}
use Rattle.std.proofs.lemmas.Bool.{ne_eqb, eqb-true, eqb-false}
use Rattle.dw_model.specs.declared.dwarf.TheConstants.{DW_FORM_indirect}
use Rattle.dw_model.specs.Results.{◌>>=◌}
use Rattle.dw_model.specs.Reading.{Place, start, Between, Spans, onto, items_up_to, items}
use Rattle.dw_model.specs.Faults.{Fault, ends_early, unknown_form, too_wide}
use Rattle.dw_model.specs.Leb.{IsUleb, uleb_at}
use Rattle.dw_model.specs.Form.{Value, Spelling, forms, spelled_at, next_form, direct_form, value_at, Spells, direct, indirect, IsUnknown, missing, no_constant, unknown_behind, IsWide, in_value, in_form, wide_behind}
use Rattle.dw_model.proofs.StepLemmas.{bind_ok, bind_err, ok_or-ok, ok_is}
use Rattle.dw_model.proofs.ReadingLemmas.{behind_front, same_front}
use Rattle.dw_model.proofs.ItemsLemmas.{Advances, turn, items-turn}
use Rattle.dw_model.proofs.LebReading.{uleb-left, uleb-ok, uleb-spans, uleb-wide, uleb-wide-only, uleb-faults}
use Rattle.dw_model.proofs.SpellingLemmas.{between, parted, joined, spelled-ok, spelled-spans}
use Rattle.dw_model.proofs.SpellingFaults.{Why, too_short, nothing_declared, unfit, spelled-why, spelled-wide}
use Rattle.std.proofs.lemmas.Bool.Decides.{nat_tests}

abbrev State : Type 0
State = ℕ × Place

next_left : (named : Bool) (s : State) (read : Result State Fault) → uleb_at s.1 ≡ read → (item : Unit {0}) (t : State) → cond named (◌>>=◌ {B = Option (Unit {0}) × State} read (λ form. Ok (Some tt, form))) (Ok (None, s)) ≡ Ok (Some item, t) → uleb_at s.1 ≡ Ok t
next_left true s (Ok x) r item t e = grind (arith, ok_is)
next_left true s (Err f) r item t e = absurd cc
next_left false s read r item t e = grind (arith, ok_is)

pub forms_advance : Advances (λ s. s.1.left) next_form
unfolding next_form
forms_advance s item t e =
    uleb-left s.1 t.1 t.0 (next_left (s.0 == DW_FORM_indirect) s (uleb_at s.1) refl item t e)

direct-here : (form : ℕ) (p : Place) → (form == DW_FORM_indirect) ≡ false → direct_form form p ≡ Ok (form, p)
unfolding items_up_to next_form
direct-here form p e = rw e refl

found-same : (read : Result (List (Unit {0}) × State) Fault) → (onto tt read >>= λ found. Ok found.1) ≡ (read >>= λ found. Ok found.1)
found-same (Ok x) = refl
found-same (Err f) = refl

behind-same : (read : Result State Fault) → (turn next_form (items (λ s. s.1.left) next_form) (◌>>=◌ {B = Option (Unit {0}) × State} read (λ form. Ok (Some tt, form))) >>= λ found. Ok found.1) ≡ (read >>= λ form. direct_form form.0 form.1)
behind-same (Ok x) = found-same (items (λ s. s.1.left) next_form x)
behind-same (Err f) = refl

direct-behind : (p : Place) → direct_form DW_FORM_indirect p ≡ (uleb_at p >>= λ form. direct_form form.0 form.1)
unfolding next_form
direct-behind p =
    rw (items-turn next_form (λ s. s.1.left) forms_advance (DW_FORM_indirect, p)) (behind-same (uleb_at p))

-- ---- the value of a form that isn't DW_FORM_indirect, and of one after it

pub value-here : (size form : ℕ) (constant : Option ℤ) (p : Place) → (form == DW_FORM_indirect) ≡ false → value_at size form constant p ≡ (ok_or (lookup (nat_eq form) forms) unknown_form >>= λ s. spelled_at size s constant p)
unfolding value_at
value-here size form constant p e = rw (direct-here form p e, e) refl

no_constant_left : (size : ℕ) (b : Bool) (read : Result State Fault) → (read >>= λ direct. ok_or (lookup (nat_eq direct.0) forms) unknown_form >>= λ s. spelled_at size s None direct.1) ≡ (read >>= λ direct. ok_or (lookup (nat_eq direct.0) forms) unknown_form >>= λ s. spelled_at size s (cond b None None) direct.1)
no_constant_left size true read = refl
no_constant_left size false read = refl

behind : (size : ℕ) (read : Result State Fault) → ((read >>= λ form. direct_form form.0 form.1) >>= λ direct. ok_or (lookup (nat_eq direct.0) forms) unknown_form >>= λ s. spelled_at size s None direct.1) ≡ (read >>= λ form. value_at size form.0 None form.1)
unfolding value_at
behind size (Ok x) = no_constant_left size (x.0 == DW_FORM_indirect) (direct_form x.0 x.1)
behind size (Err f) = refl

pub value-behind : (size : ℕ) (constant : Option ℤ) (p : Place) → value_at size DW_FORM_indirect constant p ≡ (uleb_at p >>= λ form. value_at size form.0 None form.1)
unfolding value_at
value-behind size constant p = rw (direct-behind p) (behind size (uleb_at p))

-- ---- read where it is spelled

-- a form that has a spelling isn't DW_FORM_indirect
pub has_spelling : (form : ℕ) (s : Spelling) → lookup (nat_eq form) forms ≡ Some s → (form == DW_FORM_indirect) ≡ false
has_spelling form s e = grind (arith, ne_eqb)

pub spells-ok : (size form : ℕ) (constant : Option ℤ) (piece : List ℕ) (v : Value) → Spells size form constant piece v → (p q : Place) → Between p piece q → value_at size form constant p ≡ Ok (v, q)
spells-ok size form constant piece v (direct s e h) p q b = grind (arith, nat_tests, value-here, has_spelling, spelled-ok)
spells-ok size _ constant _ v (indirect number front form h fits others) p q b =
    let parts = parted p q number front b in
    rw (value-behind size constant p, uleb-ok p (between p number front q) form number parts.0 h fits) (spells-ok size form None front v others (between p number front q) q parts.1)

-- ---- spelled where it is read

abbrev IsSpelled : ℕ → ℕ → Option ℤ → Place → Place → Value → Type 0
IsSpelled size form constant p q v = Spans (λ piece. Spells size form constant piece v) p q

abbrev SpelledBelow : ℕ → ℕ → Type 0
SpelledBelow size n = (form : ℕ) (constant : Option ℤ) (p q : Place) (v : Value) → length p.left < n → value_at size form constant p ≡ Ok (v, q) → IsSpelled size form constant p q v

spans_step : (size n : ℕ) → SpelledBelow size n → (form : ℕ) (constant : Option ℤ) (p q : Place) (v : Value) → length p.left < suc n → (named : Bool) → (form == DW_FORM_indirect) ≡ named → value_at size form constant p ≡ Ok (v, q) → IsSpelled size form constant p q v
spans_step size n below form constant p q v h true named e =
    let is : DW_FORM_indirect ≡ form = sym (eqb-true form DW_FORM_indirect named) in
    let read : (uleb_at p >>= λ form. value_at size form.0 None form.1) ≡ Ok (v, q) = sym (value-behind size constant p) ∙ ap (λ (f : ℕ). value_at size f constant p) is ∙ e in
    let b = bind_ok (uleb_at p) (λ form. value_at size form.0 None form.1) (v, q) read in
    let number = uleb-spans p b.0.1 b.0.0 b.1 in
    let others = below b.0.0 None b.0.1 q v (omega (arith, uleb-left p b.0.1 b.0.0 b.1, h)) b.2 in
    let whole : Spells size DW_FORM_indirect constant (number.0 ++ others.0) v = indirect number.0 others.0 b.0.0 number.2.0 number.2.1 others.2 in
    (number.0 ++ others.0, joined p b.0.1 q number.0 others.0 number.1 others.1, subst (λ f. Spells size f constant (number.0 ++ others.0) v) is whole)
spans_step size n below form constant p q v h false named e =
    let read : (ok_or (lookup (nat_eq form) forms) unknown_form >>= λ s. spelled_at size s constant p) ≡ Ok (v, q) = sym (value-here size form constant p named) ∙ e in
    let b = bind_ok (ok_or (lookup (nat_eq form) forms) unknown_form) (λ s. spelled_at size s constant p) (v, q) read in
    let s = spelled-spans size b.0 constant p q v b.2 in
    (s.0, s.1, direct b.0 (ok_or-ok (lookup (nat_eq form) forms) unknown_form b.0 b.1) s.2)

spelled-below : (size n : ℕ) → SpelledBelow size n
spelled-below size zero form constant p q v h e = absurd (omega arith)
spelled-below size (suc n) form constant p q v h e =
    spans_step size n (spelled-below size n) form constant p q v h (form == DW_FORM_indirect) refl e

pub value-spans : (size form : ℕ) (constant : Option ℤ) (p q : Place) (v : Value) → value_at size form constant p ≡ Ok (v, q) → Spans (λ piece. Spells size form constant piece v) p q
value-spans size form constant p q v e = spelled-below size (suc (length p.left)) form constant p q v (omega arith) e

-- ---- why a value isn't read

pub unknown-fault : (size form : ℕ) (constant : Option ℤ) (left : List ℕ) → IsUnknown form constant left → (p : Place) → p.left ≡ left → value_at size form constant p ≡ Err unknown_form
unfolding spelled_at
unknown-fault size form constant left (missing other none) p e = grind (arith, value-here, ne_eqb)
unknown-fault size form _ left (no_constant some) p e = grind (arith, nat_tests, value-here, has_spelling)
unknown-fault size _ constant _ (unknown_behind number left form h fits others) p e =
    let q : Place = record { at = p.at + length number; left = left } in
    rw (value-behind size constant p, uleb-ok p q form number (e, refl) h fits) (unknown-fault size form None left others q refl)

pub wide-fault : (size form : ℕ) (constant : Option ℤ) (left : List ℕ) → IsWide form left → (p : Place) → p.left ≡ left → value_at size form constant p ≡ Err too_wide
wide-fault size form constant left (in_value s some wide) p e = grind (arith, nat_tests, value-here, has_spelling, spelled-wide)
wide-fault size _ constant left (in_form wide) p e = grind (arith, value-behind, uleb-wide)
wide-fault size _ constant _ (wide_behind number left form h fits others) p e =
    let q : Place = record { at = p.at + length number; left = left } in
    rw (value-behind size constant p, uleb-ok p q form number (e, refl) h fits) (wide-fault size form None left others q refl)

-- the fault, and what each but the first says
pub data WhyNot (form : ℕ) (constant : Option ℤ) (left : List ℕ) (f : Fault) : Type 0 where
  short : f ≡ ends_early → WhyNot form constant left f
  unknown : f ≡ unknown_form → IsUnknown form constant left → WhyNot form constant left f
  wide : f ≡ too_wide → IsWide form left → WhyNot form constant left f

abbrev FaultBelow : ℕ → ℕ → Type 0
FaultBelow size n = (form : ℕ) (constant : Option ℤ) (p : Place) (f : Fault) → length p.left < n → value_at size form constant p ≡ Err f → WhyNot form constant p.left f

-- the same of the form after DW_FORM_indirect
why_behind : (constant : Option ℤ) (p q : Place) (form : ℕ) (f : Fault) (number : List ℕ) → p.left ≡ number ++ q.left → IsUleb number form → form < 2 ^ 64 → WhyNot form None q.left f → WhyNot DW_FORM_indirect constant p.left f
why_behind constant p q form f number e h fits (short g) = short g
why_behind constant p q form f number e h fits (unknown g u) = unknown g (subst (IsUnknown DW_FORM_indirect constant) (sym e) (unknown_behind number q.left form h fits u))
why_behind constant p q form f number e h fits (wide g w) = wide g (subst (IsWide DW_FORM_indirect) (sym e) (wide_behind number q.left form h fits w))

why_here : (form : ℕ) (constant : Option ℤ) (p : Place) (f : Fault) (s : Spelling) → lookup (nat_eq form) forms ≡ Some s → Why s constant p.left f → WhyNot form constant p.left f
why_here form constant p f s e (too_short g) = short g
why_here form constant p f s e (nothing_declared g i none) = unknown g (subst (λ c. IsUnknown form c p.left) (sym none) (no_constant (e ∙ ap Some i)))
why_here form constant p f s e (unfit g w) = wide g (in_value s e w)

missing_of : (form : ℕ) (constant : Option ℤ) (p : Place) (f : Fault) → (form == DW_FORM_indirect) ≡ false → (o : Option Spelling) → lookup (nat_eq form) forms ≡ o → ok_or o unknown_form ≡ Err f → WhyNot form constant p.left f
missing_of form constant p f other (Some s) e g = absurd cc
missing_of form constant p f other None e g = let same : f ≡ unknown_form = cc in unknown same (missing (eqb-false form DW_FORM_indirect other) e)

fault_step : (size n : ℕ) → FaultBelow size n → (form : ℕ) (constant : Option ℤ) (p : Place) (f : Fault) → length p.left < suc n → (named : Bool) → (form == DW_FORM_indirect) ≡ named → value_at size form constant p ≡ Err f → WhyNot form constant p.left f
fault_step size n below form constant p f h true named e =
    let is : DW_FORM_indirect ≡ form = sym (eqb-true form DW_FORM_indirect named) in
    let read : (uleb_at p >>= λ form. value_at size form.0 None form.1) ≡ Err f = sym (value-behind size constant p) ∙ ap (λ (f : ℕ). value_at size f constant p) is ∙ e in
    subst (λ form. WhyNot form constant p.left f) is (elim (bind_err (uleb_at p) (λ form. value_at size form.0 None form.1) f read) [
      | inl g ↦ (elim (uleb-faults p f g) [ inl k ↦ short k | inr k ↦ wide k (in_form (uleb-wide-only p (g ∙ ap Err k))) ])
      | inr b ↦ (
          let number = uleb-spans p b.0.1 b.0.0 b.1 in
          why_behind constant p b.0.1 b.0.0 f number.0 number.1.0 number.2.0 number.2.1 (below b.0.0 None b.0.1 f (omega (arith, uleb-left p b.0.1 b.0.0 b.1, h)) b.2))
    ])
fault_step size n below form constant p f h false named e =
    let read : (ok_or (lookup (nat_eq form) forms) unknown_form >>= λ s. spelled_at size s constant p) ≡ Err f = sym (value-here size form constant p named) ∙ e in
    elim (bind_err (ok_or (lookup (nat_eq form) forms) unknown_form) (λ s. spelled_at size s constant p) f read) [
      | inl g ↦ missing_of form constant p f named (lookup (nat_eq form) forms) refl g
      | inr b ↦ why_here form constant p f b.0 (ok_or-ok (lookup (nat_eq form) forms) unknown_form b.0 b.1) (spelled-why size b.0 constant p f b.2)
    ]

fault-below : (size n : ℕ) → FaultBelow size n
fault-below size zero form constant p f h e = absurd (omega arith)
fault-below size (suc n) form constant p f h e =
    fault_step size n (fault-below size n) form constant p f h (form == DW_FORM_indirect) refl e

pub value-why : (size form : ℕ) (constant : Option ℤ) (p : Place) (f : Fault) → value_at size form constant p ≡ Err f → WhyNot form constant p.left f
value-why size form constant p f e = fault-below size (suc (length p.left)) form constant p f (omega arith) e

pub unknown_since : (size form : ℕ) (constant : Option ℤ) (p : Place) → value_at size form constant p ≡ Err unknown_form → IsUnknown form constant p.left
unknown_since size form constant p e = elim (value-why size form constant p unknown_form e) [ short g ↦ absurd cc | unknown g u ↦ u | wide g w ↦ absurd cc ]

pub wide_since : (size form : ℕ) (constant : Option ℤ) (p : Place) → value_at size form constant p ≡ Err too_wide → IsWide form p.left
wide_since size form constant p e = elim (value-why size form constant p too_wide e) [ short g ↦ absurd cc | unknown g u ↦ absurd cc | wide g w ↦ w ]

pub no_other : (size form : ℕ) (constant : Option ℤ) (p : Place) (f : Fault) → value_at size form constant p ≡ Err f → (f ≡ ends_early) ⊎ ((f ≡ unknown_form) ⊎ (f ≡ too_wide))
no_other size form constant p f e = elim (value-why size form constant p f e) [ short g ↦ inl g | unknown g u ↦ inr (inl g) | wide g w ↦ inr (inr g) ]

-- ---- no spelling begins another

pub alone : (size form : ℕ) (constant : Option ℤ) (first second rest others : List ℕ) (v w : Value) → Spells size form constant first v → Spells size form constant second w → first ++ rest ≡ second ++ others → (first ≡ second) × (v ≡ w)
alone size form constant first second rest others v w h k e =
    let one = spells-ok size form constant first v h (start (first ++ rest)) (behind_front first rest) (refl, omega arith) in
    let two = spells-ok size form constant second w k (start (first ++ rest)) (behind_front second others) (e, omega arith) in
    let same = ok_is (v, behind_front first rest) (w, behind_front second others) (sym one ∙ two) in
    (same_front first second rest others e (ap (λ (x : Value × Place). x.1.at) same), ap (λ (x : Value × Place). x.0) same)
