-- What is read one item after the other goes on by at least a byte with each item.
use Rattle.std.proofs.Common.{◌≡◌, ◌⊎◌, inl, inr, ℕ, ◌+◌, ◌<◌, ◌≤◌, ℤ, Bool, true, false, cond, List, [], ◌∷◌, length, Option, Some, None, Result, Ok, subst, ap, arith}
use Rattle.std.specs.Prelude.{ok_or, not, option_map, nat_eq, ◌==◌, ◌&&◌, ◌||◌}
use Rattle.std.specs.Option.{option_map_or}
use Rattle.std.specs.Map.{lookup}
use Rattle.std.specs.List.{AllByRecursion}
use Rattle.std.proofs.lemmas.Option.{same_Some}
use Rattle.dw_model.specs.declared.dwarf.TheConstants as constants
use Rattle.dw_model.specs.Results.{◌>>=◌, or_fault}
use Rattle.dw_model.specs.Reading.{Place, number_at, items, AreItems}
use Rattle.dw_model.specs.Faults.{Fault, ends_early, undeclared, Bad, bad, TreeFault, entry_fault}
use Rattle.dw_model.specs.Leb.{uleb_at, sleb_at}
use Rattle.dw_model.specs.Form.{Value, value_at}
use Rattle.dw_model.specs.Abbrev.{Specification, Declaration, declared, next_specification, declaration_behind, next_declaration}
use Rattle.dw_model.specs.Entry.{Attribute, Entry, attributes_at, entry_at}
use Rattle.dw_model.specs.Tree.{Node, Reading, checked, depth_behind, next_node}
use Rattle.dw_model.specs.Ranges.{Range, RangeEntry, base_addressx, startx_endx, startx_length, offset_pair, base_address, start_end, start_length, Operand, leb, eight_bytes, one, two, operands, next_range_entry}
use Rattle.dw_model.proofs.StepLemmas.{bind_ok, ok_or-ok, ok_is, item_of}
pub use Rattle.dw_model.proofs.StepLemmas.{past_none}
use Rattle.dw_model.proofs.ReadingLemmas.{between-length}
use Rattle.dw_model.proofs.ItemsLemmas.{Advances, read_by}
use Rattle.dw_model.proofs.NumberLemmas.{number_at-spans}
use Rattle.dw_model.proofs.LebReading.{uleb-left, sleb-spans}
use Rattle.dw_model.proofs.InstructionLemmas.{or_fault-ok}
use Rattle.dw_model.proofs.ValueLemmas.{value-spans}

-- no more bytes are left than before
abbrev pub Onward : Place → Place → Type 0
Onward p q = length q.left ≤ length p.left

pub number-onward : {E : Type 0} (n : ℕ) (p : Place) (e : E) (x : ℕ × Place) → ok_or (number_at n p) e ≡ Ok x → length x.1.left + n ≡ length p.left
number-onward n p e x h = grind (arith, number_at-spans, ok_or-ok, between-length)

sleb-onward : (p : Place) (x : ℤ × Place) → sleb_at p ≡ Ok x → Onward p x.1
sleb-onward p x e = let s = sleb-spans p x.1 x.0 e in omega (arith, between-length p x.1 s.0 s.1)

-- one of two ways was gone
pub either : {A : Type 0} (b : Bool) (x y z : A) → cond b x y ≡ z → (x ≡ z) ⊎ (y ≡ z)
either true x y z e = inl e
either false x y z e = inr e

-- the place with which a step ends
pub ends_at : {A E : Type 0} (a b : A) (s t : Place) → ◌≡◌ {A = Result (A × Place) E} (Ok (a, s)) (Ok (b, t)) → s ≡ t
ends_at a b s t e = ap (λ (x : _ × Place). x.1) (ok_is (a, s) (b, t) e)

-- ---- declarations

abbrev Pair : Type 0
Pair = Option Specification × Place

-- the rest of a specification, after its name and its form
specification_rest : (a b : ℕ) (q : Place) (t : Place) (o : Option Specification) (ended constant : Bool) (make : ℤ → Option Specification) (plain : Option Specification) → cond {A = Result Pair Fault} ended (Ok (None, q)) (cond {A = Result Pair Fault} constant (sleb_at q >>= λ z. Ok (make z.0, z.1)) (Ok (plain, q))) ≡ Ok (o, t) → Onward q t
specification_rest a b q t o true constant make plain e = subst (Onward q) (ends_at None o q t e) (omega arith)
specification_rest a b q t o false true make plain e =
    let z = bind_ok (sleb_at q) (λ z. Ok (make z.0, z.1)) (o, t) e in
    subst (Onward q) (ends_at (make z.0.0) o z.0.1 t z.2) (sleb-onward q z.0 z.1)
specification_rest a b q t o false false make plain e = subst (Onward q) (ends_at plain o q t e) (omega arith)

pub specification-onward : (p t : Place) (o : Option Specification) → next_specification p ≡ Ok (o, t) → length t.left < length p.left
unfolding next_specification
specification-onward p t o e =
    let rest : ℕ × Place → ℕ × Place → Result Pair Fault = λ name form. cond {A = Result Pair Fault} (name.0 == 0 && form.0 == 0) (Ok (None, form.1)) (cond {A = Result Pair Fault} (form.0 == constants.DW_FORM_implicit_const) (sleb_at form.1 >>= λ z. Ok (Some (record { name = name.0; form = form.0; constant = Some z.0 }), z.1)) (Ok (Some (record { name = name.0; form = form.0; constant = None }), form.1))) in
    let name = bind_ok (uleb_at p) (λ name. uleb_at name.1 >>= rest name) (o, t) e in
    let form = bind_ok (uleb_at name.0.1) (rest name.0) (o, t) name.2 in
    let behind = specification_rest name.0.0 form.0.0 form.0.1 t o (name.0.0 == 0 && form.0.0 == 0) (form.0.0 == constants.DW_FORM_implicit_const) (λ z. Some (record { name = name.0.0; form = form.0.0; constant = Some z })) (Some (record { name = name.0.0; form = form.0.0; constant = None })) form.2 in
    omega (arith, uleb-left p name.0.1 name.0.0 name.1, uleb-left name.0.1 form.0.1 form.0.0 form.1, behind)

pub specifications_advance : Advances (λ p. p.left) next_specification
specifications_advance p item t e = specification-onward p t (Some item) e

-- all items leave no more bytes than one by one
items-onward : {A E : Type 0} (next : Place → Result (Option A × Place) E) → ((p t : Place) (o : Option A) → next p ≡ Ok (o, t) → Onward p t) → (all : List A) (p t : Place) → AreItems next p all t → Onward p t
items-onward next step [] p t h = step p t None h
items-onward next step (item ∷ all) p t h =
    omega (arith, step p h.0 (Some item) h.1, items-onward next step all h.0 t h.2)

specifications-onward : (p : Place) (x : List Specification × Place) → items (λ q. q.left) next_specification p ≡ Ok x → Onward p x.1
specifications-onward p x e =
    items-onward next_specification (λ p t o h. omega (arith, specification-onward p t o h)) x.0 p x.1 (((read_by next_specification (λ q. q.left) specifications_advance).read p x.1 x.0).0 e)

declaration-onward : (code : ℕ) (p : Place) (x : Declaration × Place) → declaration_behind code p ≡ Ok x → Onward p x.1
unfolding declaration_behind
declaration-onward code p x e =
    let tag = bind_ok (uleb_at p) (λ tag. ok_or (number_at 1 tag.1) ends_early >>= λ children. items (λ q. q.left) next_specification children.1 >>= λ specifications. Ok (record { code = code; tag = tag.0; children = not (children.0 == 0); specifications = specifications.0 }, specifications.1)) x e in
    let children = bind_ok (ok_or (number_at 1 tag.0.1) ends_early) (λ children. items (λ q. q.left) next_specification children.1 >>= λ specifications. Ok (record { code = code; tag = tag.0.0; children = not (children.0 == 0); specifications = specifications.0 }, specifications.1)) x tag.2 in
    let specifications = bind_ok (items (λ q. q.left) next_specification children.0.1) (λ specifications. Ok (record { code = code; tag = tag.0.0; children = not (children.0.0 == 0); specifications = specifications.0 }, specifications.1)) x children.2 in
    let last = ends_at (record { code = code; tag = tag.0.0; children = not (children.0.0 == 0); specifications = specifications.0.0 }) x.0 specifications.0.1 x.1 specifications.2 in
    subst (Onward p) last (omega (arith, uleb-left p tag.0.1 tag.0.0 tag.1, number-onward 1 tag.0.1 ends_early children.0 children.1, specifications-onward children.0.1 specifications.0 specifications.1))

pub declarations_advance : Advances (λ p. p.left) next_declaration
unfolding next_declaration
declarations_advance p item t e =
    let rest : ℕ × Place → Result (Option Declaration × Place) Fault = λ code. cond {A = Result (Option Declaration × Place) Fault} (code.0 == 0) (Ok (None, code.1)) (declaration_behind code.0 code.1 >>= λ declaration. Ok (Some declaration.0, declaration.1)) in
    let more = past_none (length p.left == 0) p (uleb_at p >>= rest) item t e in
    let code = bind_ok (uleb_at p) rest (Some item, t) more in
    let declared = past_none (code.0.0 == 0) code.0.1 (declaration_behind code.0.0 code.0.1 >>= λ declaration. Ok (Some declaration.0, declaration.1)) item t code.2 in
    let declaration = item_of (declaration_behind code.0.0 code.0.1) item t declared in
    omega (arith, uleb-left p code.0.1 code.0.0 code.1, declaration-onward code.0.0 code.0.1 (item, t) declaration)

-- ---- entries

value-onward : (size form : ℕ) (constant : Option ℤ) (p : Place) (x : Value × Place) → value_at size form constant p ≡ Ok x → Onward p x.1
value-onward size form constant p x e =
    let s = value-spans size form constant p x.1 x.0 e in
    omega (arith, between-length p x.1 s.0 s.1)

attributes-onward : (size : ℕ) (specifications : List Specification) (p : Place) (x : List Attribute × Place) → attributes_at size specifications p ≡ Ok x → Onward p x.1
unfolding attributes_at
attributes-onward size [] p x e = subst (Onward p) (ends_at [] x.0 p x.1 e) (omega arith)
attributes-onward size (specification ∷ specifications) p x e =
    let more : Value × Place → Result (List Attribute × Place) Fault = λ value. attributes_at size specifications value.1 >>= λ others. Ok (record { name = specification.name; value = value.0 } ∷ others.0, others.1) in
    let value = bind_ok (value_at size specification.form specification.constant p) more x e in
    let others = bind_ok (attributes_at size specifications value.0.1) (λ others. Ok (record { name = specification.name; value = value.0.0 } ∷ others.0, others.1)) x value.2 in
    let last = ends_at (record { name = specification.name; value = value.0.0 } ∷ others.0.0) x.0 others.0.1 x.1 others.2 in
    subst (Onward p) last (omega (arith, value-onward size specification.form specification.constant p value.0 value.1, attributes-onward size specifications value.0.1 others.0 others.1))

entry_behind : (size : ℕ) (at tag : ℕ) (children : Bool) (specifications : List Specification) (q : Place) (x : Option Entry × Place) → ◌>>=◌ {B = Option Entry × Place} (attributes_at size specifications q) (λ attributes. Ok (Some (record { offset = at; tag = tag; children = children; attributes = attributes.0 }), attributes.1)) ≡ Ok x → Onward q x.1
entry_behind size at tag children specifications q x e =
    let attributes = bind_ok (attributes_at size specifications q) (λ attributes. Ok (Some (record { offset = at; tag = tag; children = children; attributes = attributes.0 }), attributes.1)) x e in
    let last = ends_at (Some (record { offset = at; tag = tag; children = children; attributes = attributes.0.0 })) x.0 attributes.0.1 x.1 attributes.2 in
    subst (Onward q) last (attributes-onward size specifications q attributes.0 attributes.1)

pub entry-onward : (size : ℕ) (declarations : List Declaration) (p : Place) (x : Option Entry × Place) → entry_at size declarations p ≡ Ok x → length x.1.left < length p.left
unfolding entry_at
entry-onward size declarations p x e =
    let behind : ℕ → Place → Declaration → Result (Option Entry × Place) Fault = λ code q declaration. attributes_at size declaration.specifications q >>= λ attributes. Ok (Some (record { offset = p.at; tag = declaration.tag; children = declaration.children; attributes = attributes.0 }), attributes.1) in
    let rest : ℕ × Place → Result (Option Entry × Place) Fault = λ code. cond {A = Result (Option Entry × Place) Fault} (code.0 == 0) (Ok (None, code.1)) (ok_or (declared declarations code.0) undeclared >>= behind code.0 code.1) in
    let code = bind_ok (uleb_at p) rest x e in
    let after : Onward code.0.1 x.1 = elim (either (code.0.0 == 0) (Ok (None, code.0.1)) (ok_or (declared declarations code.0.0) undeclared >>= behind code.0.0 code.0.1) (Ok x) code.2) [
      | inl null ↦ subst (Onward code.0.1) (ends_at None x.0 code.0.1 x.1 null) (omega arith)
      | inr more ↦ (
          let declaration = bind_ok (ok_or (declared declarations code.0.0) undeclared) (behind code.0.0 code.0.1) x more in
          entry_behind size p.at declaration.0.tag declaration.0.children declaration.0.specifications code.0.1 x declaration.2)
    ] in
    omega (arith, uleb-left p code.0.1 code.0.0 code.1, after)

-- ---- the nodes of a tree

pub nodes_advance : (ranges : Entry → Result (List Range) Bad) (size : ℕ) (declarations : List Declaration) → Advances (λ s. s.place.left) (next_node ranges size declarations)
unfolding next_node
nodes_advance ranges size declarations s item t e =
    let node : Option Entry × Place → Result (Option (Option Node) × Reading) TreeFault = λ found. option_map_or (checked ranges s.depth) found.0 (Ok tt) >>= λ _. Ok (Some (option_map (λ entry. record { depth = s.depth; entry = entry }) found.0), record { place = found.1; depth = depth_behind s.depth found.0 }) in
    let more = past_none (s.depth == 0 || length s.place.left == 0) s (or_fault entry_fault (entry_at size declarations s.place) >>= node) item t e in
    let found = bind_ok (or_fault entry_fault (entry_at size declarations s.place)) node (Some item, t) more in
    let passed = bind_ok (option_map_or (checked ranges s.depth) found.0.0 (Ok tt)) (λ _. Ok (Some (option_map (λ entry. record { depth = s.depth; entry = entry }) found.0.0), record { place = found.0.1; depth = depth_behind s.depth found.0.0 })) (Some item, t) found.2 in
    let last : found.0.1 ≡ t.place = ap (λ (x : Option (Option Node) × Reading). x.1.place) (ok_is (Some (option_map (λ entry. record { depth = s.depth; entry = entry }) found.0.0), record { place = found.0.1; depth = depth_behind s.depth found.0.0 }) (Some item, t) passed.2) in
    let read = entry-onward size declarations s.place found.0 (or_fault-ok entry_fault (entry_at size declarations s.place) found.0 found.1) in
    let same : length found.0.1.left ≡ length t.place.left = ap (λ (p : Place). length p.left) last in
    omega (arith, read, same)

-- ---- range lists

one-onward : (first : Operand) (make : ℕ → RangeEntry) → ((p : Place) (x : ℕ × Place) → first p ≡ Ok x → Onward p x.1) → (p : Place) (x : RangeEntry × Place) → one first make p ≡ Ok x → Onward p x.1
one-onward first make step p x e =
    let a = bind_ok (first p) (λ a. Ok (make a.0, a.1)) x e in
    subst (Onward p) (ends_at (make a.0.0) x.0 a.0.1 x.1 a.2) (step p a.0 a.1)

two-onward : (first second : Operand) (make : ℕ → ℕ → RangeEntry) → ((p : Place) (x : ℕ × Place) → first p ≡ Ok x → Onward p x.1) → ((p : Place) (x : ℕ × Place) → second p ≡ Ok x → Onward p x.1) → (p : Place) (x : RangeEntry × Place) → two first second make p ≡ Ok x → Onward p x.1
two-onward first second make step other p x e =
    let a = bind_ok (first p) (λ a. second a.1 >>= λ b. Ok (make a.0 b.0, b.1)) x e in
    let b = bind_ok (second a.0.1) (λ b. Ok (make a.0.0 b.0, b.1)) x a.2 in
    subst (Onward p) (ends_at (make a.0.0 b.0.0) x.0 b.0.1 x.1 b.2) (omega (arith, step p a.0 a.1, other a.0.1 b.0 b.1))

leb-onward : (p : Place) (x : ℕ × Place) → leb p ≡ Ok x → Onward p x.1
leb-onward p x e = omega (arith, uleb-left p x.1 x.0 (or_fault-ok bad (uleb_at p) x e))

eight-onward : (p : Place) (x : ℕ × Place) → eight_bytes p ≡ Ok x → Onward p x.1
eight-onward p x e = omega (arith, number-onward 8 p bad x e)

-- what holds of each value of a table holds of the one that is found
found_in : {X : Type 0} (P : X → Type 0) (test : ℕ → Bool) (table : List (ℕ × X)) (x : X) → AllByRecursion (λ row. P row.1) table → lookup test table ≡ Some x → P x
found_in P test [] x all e = absurd cc
found_in P test (row ∷ table) x all e =
    elim (either (test row.0) (Some row.1) (lookup test table) (Some x) e) [
      | inl here ↦ subst P (same_Some row.1 x here) all.0
      | inr there ↦ found_in P test table x all.1 there
    ]

abbrev StepsOnward : (Place → Result (RangeEntry × Place) Bad) → Type 0
StepsOnward read = (p : Place) (x : RangeEntry × Place) → read p ≡ Ok x → Onward p x.1

operands-onward : AllByRecursion (λ row. StepsOnward row.1) operands
operands-onward = (
  one-onward leb base_addressx leb-onward,
  (
    two-onward leb leb startx_endx leb-onward leb-onward,
    (
      two-onward leb leb startx_length leb-onward leb-onward,
      (
        two-onward leb leb offset_pair leb-onward leb-onward,
        (
          one-onward eight_bytes base_address eight-onward,
          (
            two-onward eight_bytes eight_bytes start_end eight-onward eight-onward,
            (two-onward eight_bytes leb start_length eight-onward leb-onward, tt),
          ),
        ),
      ),
    ),
  ),
)

pub range_entries_advance : Advances (λ p. p.left) next_range_entry
unfolding next_range_entry
range_entries_advance p item t e =
    let entry : Place → (Place → Result (RangeEntry × Place) Bad) → Result (Option RangeEntry × Place) Bad = λ q read. read q >>= λ entry. Ok (Some entry.0, entry.1) in
    let rest : ℕ × Place → Result (Option RangeEntry × Place) Bad = λ code. cond {A = Result (Option RangeEntry × Place) Bad} (code.0 == constants.DW_RLE_end_of_list) (Ok (None, code.1)) (ok_or (lookup (nat_eq code.0) operands) bad >>= entry code.1) in
    let code = bind_ok (ok_or (number_at 1 p) bad) rest (Some item, t) e in
    let more = past_none (code.0.0 == constants.DW_RLE_end_of_list) code.0.1 (ok_or (lookup (nat_eq code.0.0) operands) bad >>= entry code.0.1) item t code.2 in
    let read = bind_ok (ok_or (lookup (nat_eq code.0.0) operands) bad) (entry code.0.1) (Some item, t) more in
    let some = ok_or-ok (lookup (nat_eq code.0.0) operands) bad read.0 read.1 in
    let step : StepsOnward read.0 = found_in StepsOnward (nat_eq code.0.0) operands read.0 operands-onward some in
    let behind = step code.0.1 (item, t) (item_of (read.0 code.0.1) item t read.2) in
    omega (arith, number-onward 1 p bad code.0 code.1, behind)
