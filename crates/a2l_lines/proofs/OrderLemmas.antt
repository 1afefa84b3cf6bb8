-- Queries that are asked in an order of their own.
use Rattle.std.proofs.Common.{◌≡◌, ◌⊎◌, inl, inr, ℕ, zero, suc, ◌+◌, ◌<◌, ◌≤◌, Bool, true, false, List, [], ◌∷◌, ◌++◌, length, take, get_or, set, Some, refl, sym, ap, ◌∙◌, arith, add-one}
use Rattle.std.specs.List.{All, Contains}
use Rattle.std.specs.List.Sorted.{IsPermutation}
use Rattle.std.proofs.Math.Nat.{eq-or-lt_of_le}
use Rattle.std.proofs.Math.Dec.{eqb}
use Rattle.std.proofs.lemmas.Bool.{eqb-true, eq-eqb, true≢false}
use Rattle.std.proofs.lemmas.List.{get_or-set_same, get_or-set_other, get_or-map, length-append, length-map, take_all}
use Rattle.std.proofs.lemmas.List.Elements.{All-push, All-more, All-contains, Contains-push, Contains-append_left}
use Rattle.std.proofs.lemmas.List.Sorted.{All-permutation, Contains-permutation, length_permutation}
use Rattle.ticket_core.specs.declared.query.Query.{Query}
use Rattle.ticket_core.specs.declared.query.QueryKind.TheVariants.{Address}
use Rattle.a2l_lines.specs.Queries.{query_at}
use Rattle.a2l_lines.specs.Order.{IsOrder, PicksSame, ArePicksIn, asked_in}

-- ---- the order

pub contains-more : (order new : List ((ℕ × ℕ) × ℕ)) (turn : ℕ × ℕ) (i : ℕ) → new ≡ order ++ (turn, i) ∷ []
    → ((j : ℕ) → j < i → (t : ℕ × ℕ) × Contains order (t, j)) → (j : ℕ) → j < i + 1 → (t : ℕ × ℕ) × Contains new (t, j)
contains-more order new turn i push so_far j within = by_place (eq-or-lt_of_le (omega (arith, within)))
  where
    by_place : (j ≡ i) ⊎ (j < i) → (t : ℕ × ℕ) × Contains new (t, j)
    by_place (inl same) = (turn, rw (push, same) (Contains-push order (turn, i)))
    by_place (inr below) =
        let before = so_far j below in
        (before.0, rw push (Contains-append_left order ((turn, i) ∷ []) (before.0, j) before.1))

pub within-more : (queries : List Query) (order new : List ((ℕ × ℕ) × ℕ)) (q : ℕ × ℕ) (i : ℕ) → new ≡ order ++ (q, i) ∷ [] → i < length queries
    → All (λ pair. pair.1 < length queries) order → All (λ pair. pair.1 < length queries) new
within-more queries order new q i push within so_far = rw push (All-push (λ (pair : (ℕ × ℕ) × ℕ). pair.1 < length queries) order (q, i) so_far within)

pub length-more : {X : Type 0} (xs new : List X) (x : X) (i : ℕ) → new ≡ xs ++ x ∷ [] → length xs ≡ i → length new ≡ i + 1
length-more xs new x i push len = rw (push, length-append xs (x ∷ []), len) refl

pub sorted : (queries : List Query) (order new : List ((ℕ × ℕ) × ℕ)) (i : ℕ) → length queries ≤ i → i ≤ length queries → IsPermutation order new → length order ≡ i → All (λ pair. pair.1 < length queries) order
    → ((j : ℕ) → j < i → (t : ℕ × ℕ) × Contains order (t, j)) → IsOrder queries new
sorted queries order new i all end moved len within found = record {
  len = omega (arith, length_permutation order new moved, len, all, end);
  within = All-permutation (λ (pair : (ℕ × ℕ) × ℕ). pair.1 < length queries) order new moved within;
  all = λ j below. let before = found j (omega (arith, below, all)) in (before.0, Contains-permutation order new (before.0, j) moved before.1);
}

-- ---- picks

-- a pick of the query at an index picks it in the order too
abbrev pub IsMoved : List Query → List ((ℕ × ℕ) × ℕ) → List ℕ → ℕ → Type 0
IsMoved queries order picks j = PicksSame (asked_in queries order) queries (get_or picks (j + 1) 0) (j + 1)

kept : (queries : List Query) (order : List ((ℕ × ℕ) × ℕ)) (picks : List ℕ) (place p pick : ℕ) (same : Bool) → eqb p place ≡ same → place + 1 < length picks
    → PicksSame (asked_in queries order) queries pick (place + 1) → IsMoved queries order picks p → IsMoved queries order (set picks (place + 1) pick) p
kept queries order picks place p pick true e within is so_far =
    rw (eqb-true p place e, get_or-set_same picks (place + 1) pick 0 within) is
kept queries order picks place p pick false e within is so_far =
    rw (get_or-set_other picks (place + 1) (p + 1) pick 0 (λ same. true≢false (sym (eq-eqb p place (omega (arith, same))) ∙ e))) so_far

-- a query more of the order
pub moved-more : (queries : List Query) (order : List ((ℕ × ℕ) × ℕ)) (picks : List ℕ) (k : ℕ) → IsOrder queries order → k < length order → length picks ≡ length queries + 1
    → All (λ pair. IsMoved queries order picks pair.1) (take k order)
    → All (λ pair. IsMoved queries order (set picks ((get_or order k ((0, 0), 0)).1 + 1) (k + 1)) pair.1) (take (k + 1) order)
moved-more queries order picks k is within len so_far =
    let place : (ℕ × ℕ) × ℕ → Query = λ pair. query_at queries pair.1 in
    let p = (get_or order k ((0, 0), 0)).1 in
    let inside : p < length queries = is.within k ((0, 0), 0) within in
    let there : p + 1 < length picks = omega (arith, inside, len) in
    let here : PicksSame (asked_in queries order) queries (k + 1) (p + 1) =
    rw (add-one k, add-one p) (omega (arith, within, length-map order place), ap Some (get_or-map place order k ((0, 0), 0) (Address 0) within)) in
    All-more (λ (pair : (ℕ × ℕ) × ℕ). IsMoved queries order (set picks (p + 1) (k + 1)) pair.1) order k ((0, 0), 0) within
    (λ j d below. kept queries order picks p (get_or (take k order) j d).1 (k + 1) (eqb (get_or (take k order) j d).1 p) refl there here (so_far j d below))
    (rw (get_or-set_same picks (p + 1) (k + 1) 0 there) here)

-- none stays none
pub none-more : (picks : List ℕ) (place pick : ℕ) → get_or picks 0 0 ≡ 0 → get_or (set picks (place + 1) pick) 0 0 ≡ 0
none-more picks place pick none = get_or-set_other picks (place + 1) 0 pick 0 (λ same. grind (arith, same)) ∙ none

-- all of the order is done
pub all-moved : (queries : List Query) (order : List ((ℕ × ℕ) × ℕ)) (picks : List ℕ) (k : ℕ) → IsOrder queries order → length order ≤ k → length picks ≡ length queries + 1 → get_or picks 0 0 ≡ 0
    → All (λ pair. IsMoved queries order picks pair.1) (take k order) → ArePicksIn queries order picks
all-moved queries order picks k is end len none so_far = (len, each)
  where
    each : (pick : ℕ) → pick ≤ length queries → PicksSame (asked_in queries order) queries (get_or picks pick 0) pick
    each zero within = rw none (omega arith, refl)
    each (suc j) within =
        let place = is.all j (omega (arith, within)) in
        let moved = All-contains (λ (pair : (ℕ × ℕ) × ℕ). IsMoved queries order picks pair.1) order (place.0, j) (rw (take_all k order end) at so_far) place.1 in
        rw (add-one j) at moved
