-- Items in groups.
use Rattle.std.proofs.Common.{◌≡◌, ◌⊎◌, ℕ, zero, suc, ◌<◌, cond, List, [], ◌∷◌, ◌++◌, length, reverse, take, Option, Some, None, refl, ap, subst, ◌∙◌, arith}
use Rattle.std.specs.Prelude.{slice_get, ◌==◌}
use Rattle.std.proofs.lemmas.List.{append-nil, map-append}
use Rattle.std.proofs.lemmas.List.Elements.{filter-append}
use Rattle.std.proofs.lemmas.Bool.{cases_order, eq-eqb, ne_eqb, eqb-true}
use Rattle.std.proofs.lemmas.Option.{same_Some}
use Rattle.dw_model.specs.Ranges.{Range}
use Rattle.dw_ranges.specs.declared.links.Grouped.{Grouped}
use Rattle.dw_ranges.specs.Claims.{Claim, in_group, claims_in}
use Rattle.dw_ranges.specs.LinksInside.{IsNext, last_of, up_to}
use Rattle.dw_ranges.proofs.GetLemmas.{reverse-cons}

pub same_or_apart : (m k : ℕ) → (m ≡ k) ⊎ (m ≡ k → ⊥)
same_or_apart m k = grind (arith, cases_order)

pub group-append : {T : Type 0} (k : ℕ) (xs ys : List (Grouped T)) → in_group k (xs ++ ys) ≡ in_group k xs ++ in_group k ys
group-append k xs ys = grind (arith, filter-append, map-append)

pub group-reverse : {T : Type 0} (k : ℕ) (xs : List (Grouped T)) → in_group k (reverse xs) ≡ reverse (in_group k xs)
group-reverse k [] = refl
group-reverse {T} k (x ∷ xs) = grind (arith, reverse-cons, group-append, append-nil, (group-reverse {T = T} k xs))

pub all-here : (k m : ℕ) (pairs : List (Range × ℕ)) → m ≡ k → in_group k (claims_in m pairs) ≡ pairs
all-here k m [] same = refl
all-here k m (pair ∷ pairs) same = rw (eq-eqb m k same) (ap (λ (rest : List (Range × ℕ)). pair ∷ rest) (all-here k m pairs same))

pub all-elsewhere : (k m : ℕ) (pairs : List (Range × ℕ)) → (m ≡ k → ⊥) → in_group k (claims_in m pairs) ≡ []
all-elsewhere k m [] apart = refl
all-elsewhere k m (pair ∷ pairs) apart = rw (ne_eqb m k apart) (all-elsewhere k m pairs apart)

-- further ranges in a group, and in another one
pub group-here : (k m : ℕ) (claims : List Claim) (pairs : List (Range × ℕ)) → m ≡ k → in_group k (claims ++ claims_in m pairs) ≡ in_group k claims ++ pairs
group-here k m claims pairs same = group-append k claims (claims_in m pairs) ∙ ap (λ (more : List (Range × ℕ)). in_group k claims ++ more) (all-here k m pairs same)

pub group-elsewhere : (k m : ℕ) (claims : List Claim) (pairs : List (Range × ℕ)) → (m ≡ k → ⊥) → in_group k (claims ++ claims_in m pairs) ≡ in_group k claims
group-elsewhere k m claims pairs apart = grind (arith, group-append, all-elsewhere, append-nil)

-- ---- the last item in a group

pub last-push : {T : Type 0} (k : ℕ) (items : List (Grouped T)) (x : Grouped T) → last_of k (items ++ x ∷ []) ≡ cond (x.group == k) (Some (length items)) (last_of k items)
unfolding last_of
last-push k [] x = grind arith
last-push {T} k (y ∷ items) x = grind (arith, (last-push {T = T} k items))

-- no item is in a group that has no last one
pub none-grouped : {T : Type 0} (k : ℕ) (items : List (Grouped T)) → last_of k items ≡ None → in_group k items ≡ []
unfolding last_of
none-grouped k [] e = grind arith
none-grouped {T} k (x ∷ items) e = grind (arith, (none-grouped {T = T} k items))

-- the last item in a group is there, after all others in it
pub record IsLast {T : Type 0} (k place : ℕ) (items : List (Grouped T)) : Type 0 where
  pub one : Grouped T
  pub there : slice_get items place ≡ Some one
  pub in_it : one.group ≡ k
  pub behind : in_group k items ≡ in_group k (take place items) ++ one.item ∷ []

last-later : {T : Type 0} (k q : ℕ) (x : Grouped T) (items : List (Grouped T)) → IsLast k q items → IsLast k (suc q) (x ∷ items)
last-later k q x items last = record { one = last.one; there = last.there; in_it = last.in_it; behind = grind (arith, last.behind) }

last-alone : {T : Type 0} (k : ℕ) (x : Grouped T) (items : List (Grouped T)) → x.group ≡ k → in_group k items ≡ [] → IsLast k 0 (x ∷ items)
last-alone k x items here none = record { one = x; there = refl; in_it = here; behind = grind (arith, eq-eqb) }

pub last-is : {T : Type 0} (k : ℕ) (items : List (Grouped T)) (place : ℕ) → last_of k items ≡ Some place → IsLast k place items
unfolding last_of
last-is k [] place e = grind arith
last-is {T} k (x ∷ items) place e = by_rest (last_of k items) refl (last-is {T = T} k items)
  where
    by_rest : (rest : Option ℕ) → last_of k items ≡ rest → ((q : ℕ) → last_of k items ≡ Some q → IsLast k q items) → IsLast k place (x ∷ items)
    by_rest None none later =
        let here : x.group ≡ k = grind (arith, eqb-true) in
        let at : 0 ≡ place = grind (arith, same_Some) in
        subst (λ p. IsLast k p (x ∷ items)) at (last-alone k x items here (none-grouped k items none))
    by_rest (Some q) some later =
        let at : suc q ≡ place = grind (arith, same_Some) in
        subst (λ p. IsLast k p (x ∷ items)) at (last-later k q x items (later q some))

-- ---- the items up to one

pub get-of-take : {X : Type 0} (n k : ℕ) (xs : List X) (x : X) → slice_get (take n xs) k ≡ Some x → (slice_get xs k ≡ Some x) × (k < n) × (take k (take n xs) ≡ take k xs)
get-of-take {X} zero k xs x e = grind arith
get-of-take {X} (suc n) k xs x e = grind (arith, (λ (k : ℕ) (xs : List X). get-of-take {X = X} n k xs x))

-- up to the last item in a group are all of the group, and there it is the last one still
pub up-to-last : {T : Type 0} (k : ℕ) (items : List (Grouped T)) (next : Option ℕ) → next ≡ last_of k items → IsNext k next items × (in_group k (up_to next items) ≡ in_group k items)
unfolding last_of
up-to-last k [] next e = grind arith
up-to-last {T} k (x ∷ items) next e = grind (arith, none-grouped, eqb-true, (up-to-last {T = T} k items (last_of k items) refl))
