-- Entries are one after the other: the place after one is further on.
use Rattle.std.proofs.Common.{◌≡◌, Bool, inl, inr, ℕ, ◌<◌, List, [], ◌∷◌, length, drop, Option, Some, None, Result, Ok, ap, subst, ◌∙◌, arith, cond}
use Rattle.std.specs.Prelude.{ok_or, ◌==◌}
use Rattle.std.proofs.Math.Seq.{drop-append_seam}
use Rattle.std.proofs.lemmas.List.{drop-drop}
use Rattle.std.proofs.lemmas.Option.{same_Some}
use Rattle.dw_model.specs.Results.{◌>>=◌}
use Rattle.dw_model.specs.Reading.{Place}
use Rattle.dw_model.specs.Abbrev.{Specification, Declaration, declared}
use Rattle.dw_model.specs.Leb.{uleb_at}
use Rattle.dw_model.specs.Form.{Value, value_at}
use Rattle.dw_model.specs.Entry.{Attribute, Entry, attributes_at, entry_at}
use Rattle.dw_model.specs.Faults.{Fault, undeclared}
use Rattle.dw_model.proofs.StepLemmas.{bind_ok, ok_is}
use Rattle.dw_model.proofs.ReadingLemmas.{between-length, between-none}
use Rattle.dw_model.proofs.AdvanceLemmas.{either, ends_at, entry-onward}
use Rattle.dw_model.proofs.LebReading.{uleb-spans}
use Rattle.dw_model.proofs.ValueLemmas.{value-spans}
use Rattle.dw_forms.proofs.OntoLemmas.{Onto, on}

-- the bytes behind others of a section are of it too
pub onto-left : (section : List ℕ) (p q : Place) → Onto p q → p.left ≡ drop p.at section → q.left ≡ drop q.at section
onto-left section p q h here =
    grind (arith, drop-append_seam h.0 q.left, h.1.0, h.1.1, drop-drop (length h.0) p.at section)

until : (p s t : Place) → s ≡ t → Onto p s → Onto p t
until p s t e h = subst (Onto p) e h

attributes-onto : (size : ℕ) (specifications : List Specification) (p : Place) (x : List Attribute × Place) → attributes_at size specifications p ≡ Ok x → Onto p x.1
unfolding attributes_at
attributes-onto size [] p x e = ([], between-none p x.1 (ends_at [] x.0 p x.1 e))
attributes-onto size (specification ∷ specifications) p x e =
    let more : Value × Place → Result (List Attribute × Place) Fault = λ value. attributes_at size specifications value.1 >>= λ others. Ok (record { name = specification.name; value = value.0 } ∷ others.0, others.1) in
    let value = bind_ok (value_at size specification.form specification.constant p) more x e in
    let others = bind_ok (attributes_at size specifications value.0.1) (λ others. Ok (record { name = specification.name; value = value.0.0 } ∷ others.0, others.1)) x value.2 in
    let last = ends_at (record { name = specification.name; value = value.0.0 } ∷ others.0.0) x.0 others.0.1 x.1 others.2 in
    let s = value-spans size specification.form specification.constant p value.0.1 value.0.0 value.1 in
    on p value.0.1 x.1 (s.0, s.1) (until value.0.1 others.0.1 x.1 last (attributes-onto size specifications value.0.1 others.0 others.1))

-- an entry moves on, and an entry that is found has the offset of its place
pub record Moves (p : Place) (x : Option Entry × Place) : Type 0 where
  pub further : p.at < x.1.at
  pub onto : Onto p x.1
  pub offset : (entry : Entry) → x.0 ≡ Some entry → entry.offset ≡ p.at

-- the same after an entry's code
abbrev Behind : ℕ → Place → Option Entry × Place → Type 0
Behind at q x = Onto q x.1 × ((entry : Entry) → x.0 ≡ Some entry → entry.offset ≡ at)

entry_behind : (size : ℕ) (at tag : ℕ) (children : Bool) (specifications : List Specification) (q : Place) (x : Option Entry × Place) → ◌>>=◌ {B = Option Entry × Place} (attributes_at size specifications q) (λ attributes. Ok (Some (record { offset = at; tag = tag; children = children; attributes = attributes.0 }), attributes.1)) ≡ Ok x → Behind at q x
entry_behind size at tag children specifications q x e =
    grind (arith, bind_ok, ok_is, until, attributes-onto, same_Some)

pub entry-moves : (size : ℕ) (declarations : List Declaration) (p : Place) (x : Option Entry × Place) → entry_at size declarations p ≡ Ok x → Moves p x
unfolding entry_at
entry-moves size declarations p x e =
    let behind : ℕ → Place → Declaration → Result (Option Entry × Place) Fault = λ code q declaration. attributes_at size declaration.specifications q >>= λ attributes. Ok (Some (record { offset = p.at; tag = declaration.tag; children = declaration.children; attributes = attributes.0 }), attributes.1) in
    let rest : ℕ × Place → Result (Option Entry × Place) Fault = λ code. cond {A = Result (Option Entry × Place) Fault} (code.0 == 0) (Ok (None, code.1)) (ok_or (declared declarations code.0) undeclared >>= behind code.0 code.1) in
    let code = bind_ok (uleb_at p) rest x e in
    let after : Behind p.at code.0.1 x = elim (either (code.0.0 == 0) (Ok (None, code.0.1)) (ok_or (declared declarations code.0.0) undeclared >>= behind code.0.0 code.0.1) (Ok x) code.2) [
      | inl null ↦ (
          let same = ok_is (None, code.0.1) x null in
          (([], between-none code.0.1 x.1 (ap (λ (y : Option Entry × Place). y.1) same)), λ entry is. let none : None ≡ Some entry = ap (λ (y : Option Entry × Place). y.0) same ∙ is in absurd cc))
      | inr more ↦ (
          let declaration = bind_ok (ok_or (declared declarations code.0.0) undeclared) (behind code.0.0 code.0.1) x more in
          entry_behind size p.at declaration.0.tag declaration.0.children declaration.0.specifications code.0.1 x declaration.2)
    ] in
    let s = uleb-spans p code.0.1 code.0.0 code.1 in
    let onto = on p code.0.1 x.1 (s.0, s.1) after.0 in
    let less = entry-onward size declarations p x e in
    record { further = omega (arith, less, between-length p x.1 onto.0 onto.1, onto.1.1); onto = onto; offset = after.1 }
