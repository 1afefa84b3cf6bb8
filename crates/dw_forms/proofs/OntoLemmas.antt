-- A declaration is read onto the bytes behind it: reading leaves a place of the same section.
use Rattle.std.proofs.Common.{◌≡◌, ◌∙◌, ℕ, ◌+◌, ◌-◌, ◌≤◌, ℤ, Bool, cond, List, [], ◌∷◌, ◌++◌, length, drop, Option, Some, None, Result, Ok, refl, sym, ap, subst, arith}
use Rattle.std.specs.Prelude.{ok_or, not, ◌==◌, ◌&&◌}
use Rattle.std.proofs.Math.Seq.{drop-append_seam}
use Rattle.std.proofs.lemmas.List.{append_assoc, drop-drop, length-append, length-drop}
use Rattle.dw_model.specs.declared.dwarf.TheConstants as constants
use Rattle.dw_model.specs.Results.{◌>>=◌}
use Rattle.dw_model.specs.Reading.{Place, Between, number_at, items, AreItems}
use Rattle.dw_model.specs.Faults.{Fault, ends_early}
use Rattle.dw_model.specs.Leb.{uleb_at, sleb_at}
use Rattle.dw_model.specs.Abbrev.{Specification, Declaration, next_specification, declaration_behind, next_declaration}
use Rattle.dw_model.proofs.StepLemmas.{bind_ok, ok_or-ok}
use Rattle.dw_model.proofs.AdvanceLemmas.{specifications_advance, past_none, ends_at}
use Rattle.dw_model.proofs.ItemsLemmas.{read_by}
use Rattle.dw_model.proofs.ReadingLemmas.{between-length}
use Rattle.dw_model.proofs.NumberLemmas.{number_at-spans}
use Rattle.dw_model.proofs.LebReading.{uleb-spans, sleb-spans}

-- some bytes were passed
abbrev pub Onto : Place → Place → Type 0
Onto p q = (piece : List ℕ) × Between p piece q

pub stays : (p : Place) → Onto p p
stays p = ([], (refl, omega arith))

pub on : (p q r : Place) → Onto p q → Onto q r → Onto p r
on p q r a b =
    let bytes : p.left ≡ (a.0 ++ b.0) ++ r.left = a.1.0 ∙ ap (λ (left : List ℕ). a.0 ++ left) b.1.0 ∙ sym (append_assoc a.0 b.0 r.left) in
    let sizes : length (a.0 ++ b.0) ≡ length a.0 + length b.0 = length-append a.0 b.0 in
    (a.0 ++ b.0, (bytes, omega (arith, a.1.1, b.1.1, sizes)))

pub until : (p s t : Place) → s ≡ t → Onto p s → Onto p t
until p s t e h = subst (Onto p) e h

pub uleb-onto : (p : Place) (x : ℕ × Place) → uleb_at p ≡ Ok x → Onto p x.1
uleb-onto p x e = let s = uleb-spans p x.1 x.0 e in (s.0, s.1)

sleb-onto : (p : Place) (x : ℤ × Place) → sleb_at p ≡ Ok x → Onto p x.1
sleb-onto p x e = let s = sleb-spans p x.1 x.0 e in (s.0, s.1)

number-onto : {E : Type 0} (n : ℕ) (p : Place) (e : E) (x : ℕ × Place) → ok_or (number_at n p) e ≡ Ok x → Onto p x.1
number-onto n p e x h = let s = number_at-spans n p x (ok_or-ok (number_at n p) e x h) in (s.0, s.1)

abbrev Pair : Type 0
Pair = Option Specification × Place

-- the rest of a specification, after its name and its form
specification_rest : (q t : Place) (o : Option Specification) (ended constant : Bool) (make : ℤ → Option Specification) (plain : Option Specification) → cond {A = Result Pair Fault} ended (Ok (None, q)) (cond {A = Result Pair Fault} constant (sleb_at q >>= λ z. Ok (make z.0, z.1)) (Ok (plain, q))) ≡ Ok (o, t) → Onto q t
specification_rest q t o ended constant make plain e = grind (arith, until, ends_at, stays, bind_ok, sleb-onto)

specification-onto : (p t : Place) (o : Option Specification) → next_specification p ≡ Ok (o, t) → Onto p t
unfolding next_specification
specification-onto p t o e =
    let rest : ℕ × Place → ℕ × Place → Result Pair Fault = λ name form. cond {A = Result Pair Fault} (name.0 == 0 && form.0 == 0) (Ok (None, form.1)) (cond {A = Result Pair Fault} (form.0 == constants.DW_FORM_implicit_const) (sleb_at form.1 >>= λ z. Ok (Some (record { name = name.0; form = form.0; constant = Some z.0 }), z.1)) (Ok (Some (record { name = name.0; form = form.0; constant = None }), form.1))) in
    let name = bind_ok (uleb_at p) (λ name. uleb_at name.1 >>= rest name) (o, t) e in
    let form = bind_ok (uleb_at name.0.1) (rest name.0) (o, t) name.2 in
    let behind = specification_rest form.0.1 t o (name.0.0 == 0 && form.0.0 == 0) (form.0.0 == constants.DW_FORM_implicit_const) (λ z. Some (record { name = name.0.0; form = form.0.0; constant = Some z })) (Some (record { name = name.0.0; form = form.0.0; constant = None })) form.2 in
    on p name.0.1 t (uleb-onto p name.0 name.1) (on name.0.1 form.0.1 t (uleb-onto name.0.1 form.0 form.1) behind)

items-onto : {A E : Type 0} (next : Place → Result (Option A × Place) E) → ((p t : Place) (o : Option A) → next p ≡ Ok (o, t) → Onto p t) → (all : List A) (p t : Place) → AreItems next p all t → Onto p t
items-onto next step [] p t h = step p t None h
items-onto next step (item ∷ all) p t h = on p h.0 t (step p h.0 (Some item) h.1) (items-onto next step all h.0 t h.2)

specifications-onto : (p : Place) (x : List Specification × Place) → items (λ q. q.left) next_specification p ≡ Ok x → Onto p x.1
specifications-onto p x e =
    items-onto next_specification specification-onto x.0 p x.1 (((read_by next_specification (λ q. q.left) specifications_advance).read p x.1 x.0).0 e)

declaration-onto : (code : ℕ) (p : Place) (x : Declaration × Place) → declaration_behind code p ≡ Ok x → Onto p x.1
unfolding declaration_behind
declaration-onto code p x e =
    let tag = bind_ok (uleb_at p) (λ tag. ok_or (number_at 1 tag.1) ends_early >>= λ children. items (λ q. q.left) next_specification children.1 >>= λ specifications. Ok (record { code = code; tag = tag.0; children = not (children.0 == 0); specifications = specifications.0 }, specifications.1)) x e in
    let children = bind_ok (ok_or (number_at 1 tag.0.1) ends_early) (λ children. items (λ q. q.left) next_specification children.1 >>= λ specifications. Ok (record { code = code; tag = tag.0.0; children = not (children.0 == 0); specifications = specifications.0 }, specifications.1)) x tag.2 in
    let specifications = bind_ok (items (λ q. q.left) next_specification children.0.1) (λ specifications. Ok (record { code = code; tag = tag.0.0; children = not (children.0.0 == 0); specifications = specifications.0 }, specifications.1)) x children.2 in
    let last = ends_at (record { code = code; tag = tag.0.0; children = not (children.0.0 == 0); specifications = specifications.0.0 }) x.0 specifications.0.1 x.1 specifications.2 in
    until p specifications.0.1 x.1 last (on p tag.0.1 specifications.0.1 (uleb-onto p tag.0 tag.1) (on tag.0.1 children.0.1 specifications.0.1 (number-onto 1 tag.0.1 ends_early children.0 children.1) (specifications-onto children.0.1 specifications.0 specifications.1)))

next-onto : (p t : Place) (item : Declaration) → next_declaration p ≡ Ok (Some item, t) → Onto p t
unfolding next_declaration
next-onto p t item e =
    let rest : ℕ × Place → Result (Option Declaration × Place) Fault = λ code. cond {A = Result (Option Declaration × Place) Fault} (code.0 == 0) (Ok (None, code.1)) (declaration_behind code.0 code.1 >>= λ declaration. Ok (Some declaration.0, declaration.1)) in
    let more = past_none (length p.left == 0) p (uleb_at p >>= rest) item t e in
    let code = bind_ok (uleb_at p) rest (Some item, t) more in
    let declared = past_none (code.0.0 == 0) code.0.1 (declaration_behind code.0.0 code.0.1 >>= λ declaration. Ok (Some declaration.0, declaration.1)) item t code.2 in
    let declaration = bind_ok (declaration_behind code.0.0 code.0.1) (λ declaration. Ok (Some declaration.0, declaration.1)) (Some item, t) declared in
    let last = ends_at (Some declaration.0.0) (Some item) declaration.0.1 t declaration.2 in
    until p declaration.0.1 t last (on p code.0.1 declaration.0.1 (uleb-onto p code.0 code.1) (declaration-onto code.0.0 code.0.1 declaration.0 declaration.1))

-- ---- places of a section

-- the place at an offset of a section
abbrev pub place_at : List ℕ → ℕ → Place
place_at section x = record { at = x; left = drop x section }

-- the bytes behind others of a section are of it too
pub onto-left : (section : List ℕ) (p q : Place) → Onto p q → p.left ≡ drop p.at section → q.left ≡ drop q.at section
onto-left section p q h here =
    sym (drop-append_seam h.0 q.left) ∙ ap (λ (xs : List ℕ). drop (length h.0) xs) (sym h.1.0 ∙ here) ∙ drop-drop (length h.0) p.at section ∙ ap (λ (n : ℕ). drop n section) (sym h.1.1)

-- The place is one of the section.
abbrev pub Stands : List ℕ → Place → Type 0
Stands section p = (p ≡ place_at section p.at) × (p.at ≤ length section)

-- behind a declaration of a section is a place of it
pub next-stands : (section : List ℕ) (p q : Place) (item : Declaration) → Stands section p → next_declaration p ≡ Ok (Some item, q) → Stands section q
next-stands section p q item s e =
    let h = next-onto p q item e in
    let here : p.left ≡ drop p.at section = ap (λ (p : Place). p.left) s.0 in
    let size : length p.left ≡ length section - p.at = ap (λ (xs : List ℕ). length xs) here ∙ length-drop p.at section in
    let left = onto-left section p q h here in
    (ap (λ (left : List ℕ). record { at = q.at; left = left }) left, omega (arith, s.1, size, between-length p q h.0 h.1, h.1.1))
