-- Queries that are asked once for all inputs that ask for them.
use Rattle.std.proofs.Common.{◌≡◌, ◌⊎◌, inl, inr, ℕ, zero, suc, ◌+◌, ◌-◌, ◌<◌, ◌≤◌, Bool, true, false, List, [], ◌∷◌, ◌++◌, length, map, take, get_or, set, Option, Some, None, refl, sym, ap, ◌∙◌, arith}
use Rattle.std.specs.Prelude.{cond, nat_lt, ◌==◌, ◌&&◌}
use Rattle.std.specs.List.{All, Contains}
use Rattle.std.specs.List.Sorted.{IsPermutation, IsSortedByKey}
use Rattle.std.specs.Ordering.{is_lt, nat_cmp, ordering_then}
use Rattle.std.specs.declared.cmp.Ordering.{Ordering}
use Rattle.std.proofs.Math.Nat.{eq-or-lt_of_le}
use Rattle.std.proofs.Math.Dec.{eqb, ltb}
use Rattle.std.proofs.lemmas.Bool.{eqb-true, eq-eqb, true≢false, ltb-true, ltb-false, lt-ltb}
use Rattle.std.proofs.lemmas.List.{get_or-set_same, get_or-set_other, get_or-map, get_or_append_left, get_or_push, get_or_past, length_push, length-map, length-set, take_all, ext_get_or}
use Rattle.std.proofs.lemmas.List.Elements.{All-push, All-more, All-contains, All-get_or, All-set, All-weaker, Contains-get_or, Contains-push, Contains-append_left}
use Rattle.std.proofs.lemmas.List.Sorted.{All-permutation, Contains-permutation}
use Rattle.ticket_core.specs.declared.query.Query.{Query}
use Rattle.ticket_core.specs.declared.query.QueryKind.TheVariants.{Address}
use Rattle.ticket_core.specs.Query.{first_word, second_word}
use Rattle.a2l_lines.specs.Order.{IsOrder, PicksSame, ArePicksIn, asked_in}
use Rattle.a2l_lines.specs.Queries.{query_at, IsBefore, IsUpTo, AreRising}
use Rattle.a2l_lines.specs.Sharing.{picked, Shares, Pair, pair_at, ArePairs, AreInOrder, last_of, is_last, added}

-- ---- pairs

-- an input more that asks for something
pub pairs-more : (inputs : List (Option Query)) (pairs new : List Pair) (i : ℕ) (query : Query) → get_or inputs i None ≡ Some query → new ≡ pairs ++ (query, i) ∷ []
    → All (λ pair. get_or inputs pair.1 None ≡ Some pair.0) pairs → All (λ pair. get_or inputs pair.1 None ≡ Some pair.0) new
pairs-more inputs pairs new i query is push right = rw push (All-push (λ (pair : Pair). get_or inputs pair.1 None ≡ Some pair.0) pairs (query, i) right is)

some-same : {a b : Query} → Some a ≡ Some b → a ≡ b
some-same e = cc e

pub found-more : (inputs : List (Option Query)) (pairs new : List Pair) (i : ℕ) (query : Query) → get_or inputs i None ≡ Some query → new ≡ pairs ++ (query, i) ∷ []
    → ((j : ℕ) (other : Query) → j < i → get_or inputs j None ≡ Some other → Contains pairs (other, j)) → (j : ℕ) (other : Query) → j < i + 1 → get_or inputs j None ≡ Some other → Contains new (other, j)
found-more inputs pairs new i query is push so_far j other below asks = rw push (by_place (eq-or-lt_of_le (omega (arith, below))))
  where
    by_place : (j ≡ i) ⊎ (j < i) → Contains (pairs ++ (query, i) ∷ []) (other, j)
    by_place (inl same) =
        let first : query ≡ other = some-same (sym is ∙ ap (λ (k : ℕ). get_or inputs k None) (sym same) ∙ asks) in
        rw (same, ← first) (Contains-push pairs (query, i))
    by_place (inr before) = Contains-append_left pairs ((query, i) ∷ []) (other, j) (so_far j other before asks)

-- one that is none
pub found-same : (inputs : List (Option Query)) (pairs : List Pair) (i : ℕ) → get_or inputs i None ≡ None
    → ((j : ℕ) (other : Query) → j < i → get_or inputs j None ≡ Some other → Contains pairs (other, j)) → (j : ℕ) (other : Query) → j < i + 1 → get_or inputs j None ≡ Some other → Contains pairs (other, j)
found-same inputs pairs i none so_far j other below asks = by_place (eq-or-lt_of_le (omega (arith, below)))
  where
    by_place : (j ≡ i) ⊎ (j < i) → Contains pairs (other, j)
    by_place (inl same) = absurd (cc (sym none ∙ ap (λ (k : ℕ). get_or inputs k None) (sym same) ∙ asks))
    by_place (inr before) = so_far j other before asks

asks-within : (inputs : List (Option Query)) (place : ℕ) (query : Query) (inside : Bool) → ltb place (length inputs) ≡ inside → get_or inputs place None ≡ Some query → place < length inputs
asks-within inputs place query true e is = ltb-true place (length inputs) e
asks-within inputs place query false e is = absurd (cc (sym (get_or_past inputs place None (ltb-false place (length inputs) e)) ∙ is))

-- in another order
pub pairs-moved : (inputs : List (Option Query)) (pairs new : List Pair) → IsPermutation pairs new → ArePairs inputs pairs → ArePairs inputs new
pairs-moved inputs pairs new moved is = record {
  right = All-permutation (λ (pair : Pair). get_or inputs pair.1 None ≡ Some pair.0) pairs new moved is.right;
  all = λ j query asks. Contains-permutation pairs new (query, j) moved (is.all j query asks);
}

-- ---- the order of queries

-- how the words of two queries compare
abbrev pub cmp_words : (x y : ℕ × ℕ) → Ordering
cmp_words x y = ordering_then (nat_cmp x.0 y.0) (nat_cmp x.1 y.1)

abbrev pub words_of : Pair → ℕ × ℕ
words_of pair = (first_word pair.0, second_word pair.0)

up-to : (a b c d : ℕ) (less : Bool) → ltb a c ≡ less → is_lt (cmp_words (c, d) (a, b)) ≡ false → (a < c) ⊎ ((a ≡ c) × (b ≤ d))
up-to a b c d true e not = inl (ltb-true a c e)
up-to a b c d false e not =
    let above : c ≤ a = ltb-false a c e in
    let same : a ≡ c = grind (arith, above, not) in
    inr (same, grind (arith, same, not))

pub in-order : (pairs : List Pair) → IsSortedByKey words_of cmp_words pairs → AreInOrder pairs
in-order pairs sorted k within =
    let p = pair_at pairs k in
    let q = pair_at pairs (k + 1) in
    up-to (first_word p.0) (second_word p.0) (first_word q.0) (second_word q.0) (ltb (first_word p.0) (first_word q.0)) refl (sorted k (Address 0, 0) (omega arith) within)

through : (p q r : Query) → IsUpTo p q → IsUpTo q r → IsUpTo p r
through p q r (inl less) (inl later) = inl (omega (arith, less, later))
through p q r (inl less) (inr later) = inl (omega (arith, less, later.0))
through p q r (inr same) (inl later) = inl (omega (arith, same.0, later))
through p q r (inr same) (inr later) = inr (same.0 ∙ later.0, omega (arith, same.1, later.1))

-- of other words
abbrev AreApart : Query → Query → Type 0
AreApart p q = first_word p ≡ first_word q → second_word p ≡ second_word q → ⊥

before : (p q : Query) → IsUpTo p q → AreApart p q → IsBefore p q
before p q (inl less) apart = inl less
before p q (inr same) apart = by_place (eq-or-lt_of_le same.1)
  where
    by_place : (second_word p ≡ second_word q) ⊎ (second_word p < second_word q) → IsBefore p q
    by_place (inl equal) = absurd (apart same.0 equal)
    by_place (inr less) = inr (same.0, less)

-- ---- a query more

-- what a query more does to those that are asked
pub record Grows (query : Query) (old new : List Query) : Type 1 where
  pub kept : (k : ℕ) → k < length old → query_at new k ≡ query_at old k
  pub some : 0 < length new
  pub more : length old ≤ length new
  pub all : (P : Query → Type 0) → All P old → P query → All P new
  pub rising : AreRising old → All (λ other. IsUpTo other query) old → AreRising new

rises : (query : Query) (old : List Query) → (0 < length old → AreApart (last_of old) query) → AreRising old → All (λ other. IsUpTo other query) old → AreRising (old ++ query ∷ [])
rises query old fresh rising below k within = by_place (eq-or-lt_of_le (omega (arith, within, length_push old query)))
  where
    by_place : (k + 1 ≡ length old) ⊎ (k + 1 < length old) → IsBefore (query_at (old ++ query ∷ []) k) (query_at (old ++ query ∷ []) (k + 1))
    by_place (inl end) =
        let at : k < length old = omega (arith, end) in
        let last : length old - 1 ≡ k = omega (arith, end) in
        let most : IsUpTo (query_at old k) query = All-get_or (λ other. IsUpTo other query) old k (Address 0) at below in
        let apart : AreApart (query_at old k) query = rw last at (fresh (omega (arith, at))) in
        rw (get_or_append_left old (query ∷ []) (Address 0) k at, get_or_push old query (Address 0) (k + 1) (sym end)) (before (query_at old k) query most apart)
    by_place (inr inside) =
        rw (get_or_append_left old (query ∷ []) (Address 0) k (omega (arith, inside)), get_or_append_left old (query ∷ []) (Address 0) (k + 1) inside) (rising k inside)

and-true : (p q : Bool) → (p && q) ≡ true → (p ≡ true) × (q ≡ true)
and-true true q e = (refl, e)
and-true false q e = absurd (true≢false (sym e))

pub last-is : (query : Query) (old : List Query) → 0 < length old → first_word (last_of old) ≡ first_word query → second_word (last_of old) ≡ second_word query → is_last query old ≡ true
last-is query old some first second =
    rw (lt-ltb 0 (length old) some, eq-eqb (first_word (last_of old)) (first_word query) first, eq-eqb (second_word (last_of old)) (second_word query) second) refl

grows : (query : Query) (old : List Query) (found : Bool) → is_last query old ≡ found → Grows query old (cond found old (old ++ query ∷ []))
grows query old true e =
    let both = and-true (nat_lt 0 (length old)) (first_word (last_of old) == first_word query && second_word (last_of old) == second_word query) e in
    record {
      kept = λ k within. refl;
      some = ltb-true 0 (length old) both.0;
      more = omega arith;
      all = λ P all this. all;
      rising = λ rising below. rising;
    }
grows query old false e = record {
  kept = λ k within. get_or_append_left old (query ∷ []) (Address 0) k within;
  some = omega (arith, length_push old query);
  more = omega (arith, length_push old query);
  all = λ P all this. All-push P old query all this;
  rising = rises query old (λ some first second. true≢false (sym (last-is query old some first second) ∙ e));
}

pub grown : (query : Query) (old new : List Query) → new ≡ added query old → Grows query old new
grown query old new is = rw is (grows query old (is_last query old) refl)

-- ---- picks

-- the input at a place has picked what it asks for
abbrev pub IsPicked : List (Option Query) → List Query → List ℕ → ℕ → Type 0
IsPicked inputs asked picks j = picked asked (get_or picks j 0) ≡ get_or inputs j None

picked-kept : (old new : List Query) (pick : ℕ) → ((k : ℕ) → k < length old → query_at new k ≡ query_at old k) → pick ≤ length old → picked new pick ≡ picked old pick
picked-kept old new zero kept within = refl
picked-kept old new (suc k) kept within = ap Some (kept k (omega (arith, within)))

picked-last : (asked : List Query) (n : ℕ) (query : Query) → 0 < n → query_at asked (n - 1) ≡ query → picked asked n ≡ Some query
picked-last asked zero query some last = grind (arith, some)
picked-last asked (suc k) query some last =
    let before : suc k - 1 ≡ k = omega arith in
    ap Some (ap (query_at asked) (sym before) ∙ last)

pick-within : (picks : List ℕ) (n p : ℕ) (inside : Bool) → ltb p (length picks) ≡ inside → All (λ pick. pick ≤ n) picks → get_or picks p 0 ≤ n
pick-within picks n p true e all = All-get_or (λ pick. pick ≤ n) picks p 0 (ltb-true p (length picks) e) all
pick-within picks n p false e all = rw (get_or_past picks p 0 (ltb-false p (length picks) e)) (omega arith)

-- what was picked stays picked
picked-on : (inputs : List (Option Query)) (old new : List Query) (picks : List ℕ) (query : Query) (place p : ℕ) (same : Bool) → eqb p place ≡ same → Grows query old new → last_of new ≡ query → place < length picks
    → get_or inputs place None ≡ Some query → All (λ pick. pick ≤ length old) picks → IsPicked inputs old picks p → IsPicked inputs new (set picks place (length new)) p
picked-on inputs old new picks query place p true e more last within is all so_far =
    rw (eqb-true p place e, get_or-set_same picks place (length new) 0 within) (picked-last new (length new) query more.some last ∙ sym is)
picked-on inputs old new picks query place p false e more last within is all so_far =
    rw (get_or-set_other picks place p (length new) 0 (λ same. true≢false (sym (eq-eqb p place same) ∙ e)))
    (picked-kept old new (get_or picks p 0) more.kept (pick-within picks (length old) p (ltb p (length picks)) refl all) ∙ so_far)

-- What holds when i pairs are done.
pub record IsDone (inputs : List (Option Query)) (pairs : List Pair) (i : ℕ) (asked : List Query) (picks : List ℕ) : Type 0 where
  pub len : length picks ≡ length inputs
  pub rising : AreRising asked
  pub needed : All (λ query. Contains inputs (Some query)) asked
  pub within : All (λ pick. pick ≤ length asked) picks
  pub below : i < length pairs → All (λ query. IsUpTo query (pair_at pairs i).0) asked
  pub bad : (j : ℕ) → get_or inputs j None ≡ None → IsPicked inputs asked picks j
  pub found : All (λ pair. IsPicked inputs asked picks pair.1) (take i pairs)

-- a place among pairs is that of an input
pub place-within : (inputs : List (Option Query)) (pairs : List Pair) (i : ℕ) → ArePairs inputs pairs → i < length pairs → (pair_at pairs i).1 < length inputs
place-within inputs pairs i is within =
    let pair = pair_at pairs i in
    asks-within inputs pair.1 pair.0 (ltb pair.1 (length inputs)) refl (All-get_or (λ (pair : Pair). get_or inputs pair.1 None ≡ Some pair.0) pairs i (Address 0, 0) within is.right)

-- a pair more
pub sharing-more : (inputs : List (Option Query)) (pairs : List Pair) (i : ℕ) (asked new : List Query) (picks new_picks : List ℕ) → ArePairs inputs pairs → AreInOrder pairs → i < length pairs
    → IsDone inputs pairs i asked picks → new ≡ added (pair_at pairs i).0 asked → last_of new ≡ (pair_at pairs i).0 → new_picks ≡ set picks (pair_at pairs i).1 (length new)
    → IsDone inputs pairs (i + 1) new new_picks
sharing-more inputs pairs i asked new picks new_picks are order within so_far is last set_is =
    let query = (pair_at pairs i).0 in
    let place = (pair_at pairs i).1 in
    let next = (pair_at pairs (i + 1)).0 in
    let more = grown query asked new is in
    let asks : get_or inputs place None ≡ Some query = All-get_or (λ (pair : Pair). get_or inputs pair.1 None ≡ Some pair.0) pairs i (Address 0, 0) within are.right in
    let inside : place < length inputs = place-within inputs pairs i are within in
    let there : place < length picks = omega (arith, inside, so_far.len) in
    let itself : IsUpTo query query = inr (refl, omega arith) in
    let on : (p : ℕ) → IsPicked inputs asked picks p → IsPicked inputs new (set picks place (length new)) p =
    λ p. picked-on inputs asked new picks query place p (eqb p place) refl more last there asks so_far.within in
    let self : IsPicked inputs new (set picks place (length new)) place =
    rw (get_or-set_same picks place (length new) 0 there) (picked-last new (length new) query more.some last ∙ sym asks) in
    rw set_is record {
      len = length-set picks place (length new) ∙ so_far.len;
      rising = more.rising so_far.rising (so_far.below within);
      needed = more.all (λ query. Contains inputs (Some query)) so_far.needed (rw (← asks) (Contains-get_or inputs place None inside));
      within = All-set (λ pick. pick ≤ length new) picks place (length new) (omega arith) (All-weaker (λ pick. pick ≤ length asked) (λ pick. pick ≤ length new) (λ pick under. omega (arith, under, more.more)) picks so_far.within);
      below =
          λ goes_on. All-weaker (λ other. IsUpTo other query) (λ other. IsUpTo other next) (λ other under. through other query next under (order i goes_on)) new
          (more.all (λ other. IsUpTo other query) (so_far.below within) itself);
      bad = λ j none. on j (so_far.bad j none);
      found =
          All-more (λ (pair : Pair). IsPicked inputs new (set picks place (length new)) pair.1) pairs i (Address 0, 0) within
          (All-weaker (λ (pair : Pair). IsPicked inputs asked picks pair.1) (λ (pair : Pair). IsPicked inputs new (set picks place (length new)) pair.1) (λ pair. on pair.1) (take i pairs) so_far.found)
          self;
    }

-- the same of a query and a place that were read
pub sharing-next : (inputs : List (Option Query)) (pairs : List Pair) (i : ℕ) (query : Query) (place : ℕ) (asked new : List Query) (picks new_picks : List ℕ)
    → query ≡ (pair_at pairs i).0 → place ≡ (pair_at pairs i).1 → ArePairs inputs pairs → AreInOrder pairs → i < length pairs
    → IsDone inputs pairs i asked picks → new ≡ added query asked → last_of new ≡ query → new_picks ≡ set picks place (length new) → IsDone inputs pairs (i + 1) new new_picks
sharing-next inputs pairs i query place asked new picks new_picks read there are order within so_far is last set_is =
    sharing-more inputs pairs i asked new picks new_picks are order within so_far (rw read at is) (rw read at last) (rw there at set_is)

all-picked : (inputs : List (Option Query)) (pairs : List Pair) (asked : List Query) (picks : List ℕ) (j : ℕ) (input : Option Query) → get_or inputs j None ≡ input → ArePairs inputs pairs
    → ((j : ℕ) → get_or inputs j None ≡ None → IsPicked inputs asked picks j) → All (λ pair. IsPicked inputs asked picks pair.1) pairs → IsPicked inputs asked picks j
all-picked inputs pairs asked picks j None is are bad found = bad j is
all-picked inputs pairs asked picks j (Some query) is are bad found = All-contains (λ (pair : Pair). IsPicked inputs asked picks pair.1) pairs (query, j) found (are.all j query is)

-- all pairs are done
pub sharing-ends : (inputs : List (Option Query)) (pairs : List Pair) (i : ℕ) (asked : List Query) (picks : List ℕ) → ArePairs inputs pairs → length pairs ≤ i → IsDone inputs pairs i asked picks → Shares inputs asked picks × AreRising asked
sharing-ends inputs pairs i asked picks are end done =
    let found : All (λ pair. IsPicked inputs asked picks pair.1) pairs = rw (take_all i pairs end) at done.found in
    let many : length (map (picked asked) picks) ≡ length inputs = length-map picks (picked asked) ∙ done.len in
    let shares : Shares inputs asked picks = record {
      needed = done.needed;
      within = done.within;
      back =
          ext_get_or None (map (picked asked) picks) inputs many
          (λ j below. get_or-map (picked asked) picks j 0 None (omega (arith, below, length-map picks (picked asked))) ∙ all-picked inputs pairs asked picks j (get_or inputs j None) refl are done.bad found);
    } in
    (shares, done.rising)

-- ---- in an order

-- a sharing whose queries are in an order
pub shares-in : (inputs : List (Option Query)) (asked : List Query) (picks became : List ℕ) (order : List ((ℕ × ℕ) × ℕ)) → IsOrder asked order → ArePicksIn asked order became
    → Shares inputs asked picks → Shares inputs (asked_in asked order) (map (λ pick. get_or became pick 0) picks)
shares-in inputs asked picks became order is are shares =
    let place : (ℕ × ℕ) × ℕ → Query = λ pair. query_at asked pair.1 in
    let moved : ℕ → ℕ = λ pick. get_or became pick 0 in
    let same : (j : ℕ) → j < length picks → PicksSame (asked_in asked order) asked (get_or became (get_or picks j 0) 0) (get_or picks j 0) =
    λ j below. are.1 (get_or picks j 0) (All-get_or (λ pick. pick ≤ length asked) picks j 0 below shares.within) in
    let count : length (map moved picks) ≡ length picks = length-map picks moved in
    record {
      needed = λ i d below.
          let at : i < length order = omega (arith, below, length-map order place) in
          rw (get_or-map place order i ((0, 0), 0) d at)
          (All-get_or (λ query. Contains inputs (Some query)) asked (get_or order i ((0, 0), 0)).1 (Address 0) (is.within i ((0, 0), 0) at) shares.needed);
      within = λ i d below.
          let at : i < length picks = omega (arith, below, count) in
          rw (get_or-map moved picks i 0 d at) (same i at).0;
      back =
          ext_get_or None (map (picked (asked_in asked order)) (map moved picks)) (map (picked asked) picks)
          (length-map (map moved picks) (picked (asked_in asked order)) ∙ count ∙ sym (length-map picks (picked asked)))
          (λ j below.
          let there : j < length (map moved picks) = omega (arith, below, length-map (map moved picks) (picked (asked_in asked order))) in
          let at : j < length picks = omega (arith, there, count) in
          get_or-map (picked (asked_in asked order)) (map moved picks) j 0 None there
          ∙ ap (picked (asked_in asked order)) (get_or-map moved picks j 0 0 at)
          ∙ (same j at).1
          ∙ sym (get_or-map (picked asked) picks j 0 None at))
          ∙ shares.back;
    }
