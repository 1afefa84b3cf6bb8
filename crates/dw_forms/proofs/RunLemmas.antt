-- The first declaration of a code from a place on.
use Rattle.std.proofs.Common.{◌≡◌, ◌≢◌, ◌⊎◌, inl, inr, ℕ, zero, suc, ◌+◌, ◌-◌, ◌<◌, ◌≤◌, Bool, true, false, List, [], ◌∷◌, length, drop, get_or, map, Some, None, option_map, refl, sym, ap, ◌∙◌, arith, subst, cond, Ordering, Equal}
use Rattle.std.specs.Prelude.{slice_get, nat_lt, nat_le, ◌&&◌, ◌==◌, IfSome}
use Rattle.std.specs.Ordering.{nat_cmp, ordering_then, is_gt, is_eq}
use Rattle.std.specs.BTreeSet as set
use Rattle.std.specs.Cmp.{nat_cmp_is}
use Rattle.std.specs.declared.ops.Bound.TheVariants.{Included, Unbounded}
use Rattle.std.proofs.lemmas.Map.Keys.{le_from_not_gt}
use Rattle.std.proofs.lemmas.Bool.{cases_lt, cases_order, eq-eqb, ne_eqb, ltb-true, ltb-false, leb-true, lt-ltb, le-leb, and_parts, and_from, true≢false}
use Rattle.std.proofs.lemmas.Option.{same_Some, slice_get_past, slice_get_read}
use Rattle.dw_model.specs.Abbrev.{declared}
use Rattle.dw_forms.specs.declared.declaration.Decl.{Decl}
use Rattle.dw_forms.specs.Declaration.{declaration_shown}
use Rattle.dw_forms.specs.Run.{code_at, Coded, coded_cmp, ArePlaces, IsFirstPlace}

-- ---- what `declared` finds, by the place of the first of the code

find_first : (ds : List Decl) (from code k : ℕ) → from ≤ k → code_at ds k ≡ Some code → ((j : ℕ) → from ≤ j → j < k → code_at ds j ≢ Some code) → declared (drop from (map declaration_shown ds)) code ≡ option_map declaration_shown (slice_get ds k)
find_first [] from code k within e before = absurd cc
find_first (d ∷ ds) zero code zero within e before = rw (eq-eqb d.code code (same_Some d.code code e)) refl
find_first (d ∷ ds) zero code (suc k) within e before =
    let other : (d.code == code) ≡ false = ne_eqb d.code code (λ same. before 0 (omega arith) (omega arith) (ap Some same)) in
    rw other (find_first ds zero code k (omega arith) e (λ j g h. before (suc j) (omega arith) (omega (arith, h))))
find_first (d ∷ ds) (suc from) code zero within e before = absurd (omega (arith, within))
find_first (d ∷ ds) (suc from) code (suc k) within e before =
    find_first ds from code k (omega (arith, within)) e (λ j g h. before (suc j) (omega (arith, g)) (omega (arith, h)))

find_none : (ds : List Decl) (from code : ℕ) → ((j : ℕ) → from ≤ j → j < length ds → code_at ds j ≢ Some code) → declared (drop from (map declaration_shown ds)) code ≡ None
find_none [] zero code none = refl
find_none [] (suc from) code none = refl
find_none (d ∷ ds) zero code none =
    let other : (d.code == code) ≡ false = ne_eqb d.code code (λ same. none 0 (omega arith) (omega arith) (ap Some same)) in
    rw other (find_none ds zero code (λ j g h. none (suc j) (omega arith) (omega (arith, h))))
find_none (d ∷ ds) (suc from) code none =
    find_none ds from code (λ j g h. none (suc j) (omega (arith, g)) (omega (arith, h)))

-- ---- codes in order

-- the codes before a place are those in order
abbrev InOrder : List Decl → ℕ → Type 0
InOrder ds n = (k : ℕ) → k < n → code_at ds k ≡ Some (k + 1)

pub found_in_order : (ds : List Decl) (n from code : ℕ) (x : Decl) → InOrder ds n → n ≤ length ds → (nat_lt from code && nat_le code n) ≡ true → x ≡ get_or ds (code - 1) x → Some (declaration_shown x) ≡ declared (drop from (map declaration_shown ds)) code
found_in_order ds n from code x order within first is =
    grind (arith, and_parts, ltb-true, leb-true, slice_get_read, find_first, same_Some)

-- ---- other codes

among : (n from code : ℕ) → (nat_lt from code && nat_le code n) ≡ false → from < code → code ≤ n → ⊥
among n from code e some within = grind (arith, true≢false, and_from, lt-ltb, le-leb)

-- a place of the code from one on isn't among those in order
behind : (ds : List Decl) (n from code j : ℕ) → InOrder ds n → (nat_lt from code && nat_le code n) ≡ false → from ≤ j → code_at ds j ≡ Some code → n ≤ j
behind ds n from code j order other after e = grind (arith, cases_lt, same_Some, among)

pub found_other : (ds : List Decl) (n from code k : ℕ) (places : set.BTreeSet Coded) (x : Decl) → InOrder ds n → ArePlaces n (length ds) ds places → (nat_lt from code && nat_le code n) ≡ false → IsFirstPlace places from code (Some k) → x ≡ get_or ds k x
    → Some (declaration_shown x) ≡ declared (drop from (map declaration_shown ds)) code
found_other ds n from code k places x order are other first is =
    let here = are.sound code k first.0 in
    let stands = slice_get_read ds (length ds) k x refl here.1 is in
    let found = find_first ds from code k first.1 here.2 (λ j g h e. let past = first.2 j g (are.complete code j (behind ds n from code j order other g e) (omega (arith, h, here.1)) e) in omega (arith, past, h)) in
    sym (found ∙ ap (option_map declaration_shown) stands)

pub found_nowhere : (ds : List Decl) (n from code : ℕ) (places : set.BTreeSet Coded) → InOrder ds n → ArePlaces n (length ds) ds places → (nat_lt from code && nat_le code n) ≡ false → IsFirstPlace places from code None → None ≡ declared (drop from (map declaration_shown ds)) code
found_nowhere ds n from code places order are other none =
    sym (find_none ds from code (λ j g h e. true≢false (sym (are.complete code j (behind ds n from code j order other g e) h e) ∙ none j g)))

-- ---- codes and places, in order

not-gt : (i j : ℕ) → i ≤ j → is_gt (nat_cmp i j) ≡ false
not-gt i j h = grind (arith, cases_lt)

same-code : (code i j : ℕ) → coded_cmp (code, i) (code, j) ≡ nat_cmp i j
same-code code i j = ap (λ (o : Ordering). ordering_then o (nat_cmp i j)) (sym (nat_cmp_is code code Equal refl))

-- not after a place of the same code
coded-le : (code i j : ℕ) → i ≤ j → is_gt (coded_cmp (code, i) (code, j)) ≡ false
coded-le code i j h = ap is_gt (same-code code i j) ∙ not-gt i j h

-- what it says that one isn't after another
coded-parts : (x y : Coded) → is_gt (coded_cmp x y) ≡ false → (x.0 < y.0) ⊎ ((x.0 ≡ y.0) × (x.1 ≤ y.1))
coded-parts x y h = grind (arith, cases_order, le_from_not_gt, true≢false)

coded-same : (x y : Coded) → is_eq (coded_cmp x y) ≡ true → (x.0 ≡ y.0) × (x.1 ≡ y.1)
coded-same x y h = grind (arith, true≢false)

coded-itself : (x : Coded) → is_eq (coded_cmp x x) ≡ true
coded-itself x = grind arith

-- ---- the places of codes, as they are found

abbrev pub Range : set.BTreeSet Coded → (from code : ℕ) → List Coded → Type 0
Range places from code r = set.IsKeyRangeOf coded_cmp (Included (code, from)) Unbounded places r

pub none-placed : (places : set.BTreeSet Coded) (from code : ℕ) (r : List Coded) → Range places from code r → r ≡ [] → IsFirstPlace places from code None
none-placed places from code r range empty k within = range.5 empty (code, k) (coded-le code from k within, tt)

-- the first of the range
begins : (P : Coded → Type 0) (x : Coded) (r t : List Coded) → r ≡ x ∷ t → IfSome (slice_get r 0) P → P x
begins P x r t e h = subst (λ (r : List Coded). IfSome (slice_get r 0) P) e h

pub other-placed : (places : set.BTreeSet Coded) (from code : ℕ) (x : Coded) (r t : List Coded) → Range places from code r → r ≡ x ∷ t → (x.0 ≡ code → ⊥) → IsFirstPlace places from code None
other-placed places from code x r t range e other k within = by_found (set.contains coded_cmp places (code, k)) refl
  where
    by_found : (b : Bool) → set.contains coded_cmp places (code, k) ≡ b → b ≡ false
    by_found false h = refl
    by_found true h =
        let least = coded-parts x (code, k) (begins (λ (y : Coded). is_gt (coded_cmp y (code, k)) ≡ false) x r t e (range.2 (code, k) (coded-le code from k within, tt) h)) in
        let inside = coded-parts (code, from) x (begins (λ (y : Coded). set.IsKeyInRange coded_cmp (Included (code, from)) Unbounded places y) x r t e range.1).0.0 in
        absurd (elim least [ inl a ↦ elim inside [ inl b ↦ omega (arith, a, b) | inr b ↦ other (sym b.0) ] | inr a ↦ other a.0 ])

pub first-placed : (places : set.BTreeSet Coded) (from code : ℕ) (x : Coded) (r t : List Coded) → Range places from code r → r ≡ x ∷ t → x.0 ≡ code → IsFirstPlace places from code (Some x.1)
first-placed places from code x r t range e same =
    let inside = begins (λ (y : Coded). set.IsKeyInRange coded_cmp (Included (code, from)) Unbounded places y) x r t e range.1 in
    let there : set.contains coded_cmp places (code, x.1) ≡ true = ap (λ (c : ℕ). set.contains coded_cmp places (c, x.1)) (sym same) ∙ inside.1 in
    let past : from ≤ x.1 = elim (coded-parts (code, from) x inside.0.0) [ inl a ↦ absurd (omega (arith, a, same)) | inr a ↦ a.1 ] in (
      there,
      past,
      λ j within h.
          let least = begins (λ (y : Coded). is_gt (coded_cmp y (code, j)) ≡ false) x r t e (range.2 (code, j) (coded-le code from j within, tt) h) in
          elim (coded-parts x (code, j) least) [ inl a ↦ absurd (omega (arith, a, same)) | inr a ↦ a.1 ],
    )

-- ---- a declaration's code and place are added

coded-at : (ds : List Decl) (i : ℕ) (d : Decl) → i < length ds → code_at ds i ≡ Some (get_or ds i d).code
coded-at [] i d h = absurd (omega (arith, h))
coded-at (x ∷ ds) zero d h = refl
coded-at (x ∷ ds) (suc i) d h = coded-at ds i d (omega (arith, h))

pub one-more : (ds : List Decl) (from i : ℕ) (d : Decl) (old new : set.BTreeSet Coded) → i < length ds → from ≤ i → ((q : Coded) → set.contains coded_cmp new q ≡ cond (is_eq (coded_cmp ((get_or ds i d).code, i) q)) true (set.contains coded_cmp old q))
    → ArePlaces from i ds old → ArePlaces from (i + 1) ds new
one-more ds from i d old new within past added are =
    grind (arith, coded-at, coded-same, ltb-true, ltb-false, same_Some, coded-itself)

-- no declaration is left
pub all-placed : (ds : List Decl) (from i : ℕ) (places : set.BTreeSet Coded) → length ds ≤ i → ArePlaces from i ds places → ArePlaces from (length ds) ds places
all-placed ds from i places past are = grind (arith, cases_lt, slice_get_past)
