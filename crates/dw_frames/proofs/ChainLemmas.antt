-- The chain of functions at an address, by their numbers.
use Rattle.std.proofs.Common.{◌≡◌, ℕ, zero, suc, ◌+◌, ◌-◌, ◌<◌, ◌≤◌, Bool, true, false, List, [], ◌∷◌, length, map, reverse, Option, Some, None, refl, sym, ap, ◌∙◌, arith, length-append}
use Rattle.std.specs.Prelude.{MatchResult, option_map, option_and_then, slice_get, find, ◌&&◌}
use Rattle.std.specs.Option.{option_map_or}
use Rattle.std.proofs.lemmas.List.{length-reverse}
use Rattle.std.proofs.lemmas.Bool.{and_parts, and_left, eqb-true}
use Rattle.std.proofs.lemmas.Option.{slice_get_within}
use Rattle.dw_model.specs.Entry.{Entry}
use Rattle.dw_model.specs.Reading.{items_up_to}
use Rattle.dw_model.specs.Tree.{Node, is_subprogram, is_inlined, inlined_in, is_at, next_inwards, chain_in}
use Rattle.dw_frames.specs.Rising.{Rises}
use Rattle.dw_frames.specs.Placed.{Placed, placed, offset_of, first, is_outermost, lies_in}
use Rattle.dw_frames.proofs.FirstLemmas.{first-find, first-is}
use Rattle.dw_ranges.proofs.GetLemmas.{get-mapped}
use Rattle.dw_frames.proofs.RisingLemmas.{rises-order}
use Rattle.dw_frames.proofs.PlacedLemmas.{find_node-placed, find-alone}

pub placed-fewer : (kept : Entry → Bool) (before : List Node) → length (placed kept before) ≤ length before
unfolding placed
placed-fewer kept [] = omega arith
placed-fewer kept (node ∷ before) = grind (arith, length-append, placed-fewer kept before)

-- ---- the chain

-- what isn't kept holds no address
abbrev pub IsIdle : (Entry → Bool) → (Entry → Bool) → Type 0
IsIdle kept holds = (entry : Entry) → kept entry ≡ false → ((is_subprogram entry && holds entry) ≡ false) × ((is_inlined entry && holds entry) ≡ false)

pub at_some : (o : Option Node) (offset : ℕ) → is_at o offset ≡ true → (e : Node) × (o ≡ Some e) × (e.entry.offset ≡ offset)
at_some o offset h = grind (arith, eqb-true)

-- a function that lies in another one is after it
pub lies-after : (holds : Entry → Bool) (all : List Placed) (k j : ℕ) (p : Placed) → Rises (map offset_of all) → ((k : ℕ) (p : Placed) (e : Node) → slice_get all k ≡ Some p → p.1 ≡ Some e → e.entry.offset < offset_of p) → slice_get all k ≡ Some p → first (lies_in holds (offset_of p)) all ≡ Some j → (q : Placed) × (slice_get all j ≡ Some q) × (k < j)
lies-after holds all k j p rises around h step =
    let q = first-is (lies_in holds (offset_of p)) all j step in
    let test = and_parts (is_inlined q.0.0.entry && holds q.0.0.entry) (is_at q.0.1 (offset_of p)) q.2 in
    let e = at_some q.0.1 (offset_of p) test.1 in
    let less : offset_of p < offset_of q.0 = let inside = around j q.0 e.0 q.1 e.1 in let at = e.2 in omega (arith, inside, at) in
    (q.0, q.1, rises-order (map offset_of all) k j (offset_of p) (offset_of q.0) rises (get-mapped offset_of all k p h) (get-mapped offset_of all j q.0 q.1) less)

module _ (kept holds : Entry → Bool) (idle : IsIdle kept holds) where
  -- which number the first function has that holds the address, and the first in each other one
  pub record Found (before : List Node) (outer : Option ℕ) (inner : ℕ → Option ℕ) : Type 0 where
    pub rises : Rises (map offset_of (placed kept before))
    pub around : (k : ℕ) (p : Placed) (e : Node) → slice_get (placed kept before) k ≡ Some p → p.1 ≡ Some e → e.entry.offset < offset_of p
    pub outermost : outer ≡ first (is_outermost holds) (placed kept before)
    pub inwards : (k : ℕ) (p : Placed) → slice_get (placed kept before) k ≡ Some p → inner k ≡ first (lies_in holds (offset_of p)) (placed kept before)

  find-outermost : (before : List Node) → find (λ node. is_subprogram node.entry && holds node.entry) (reverse before) ≡ option_map (λ (p : Placed). p.0) (find (is_outermost holds) (placed kept before))
  find-outermost before =
      sym (find-alone (λ node. is_subprogram node.entry && holds node.entry) [] (reverse before))
      ∙ find_node-placed kept (λ _ node. is_subprogram node.entry && holds node.entry) (is_outermost holds)
      (λ node _ e. (idle node.entry e).0) (λ node _. refl) before

  find-inlined : (before : List Node) (outer : Node) → inlined_in holds (reverse before) outer ≡ option_map (λ (p : Placed). p.0) (find (lies_in holds outer.entry.offset) (placed kept before))
  unfolding inlined_in
  find-inlined before outer = grind (arith, find_node-placed, and_left)

  module _ (before : List Node) (outer : Option ℕ) (inner : ℕ → Option ℕ) (found : Found before outer inner) where
    -- the node of a number, and none where there is no number
    abbrev node_of : Option ℕ → Option Node
    node_of k = option_map (λ (p : Placed). p.0) (option_and_then (slice_get (placed kept before)) k)

    outermost-is : find (λ node. is_subprogram node.entry && holds node.entry) (reverse before) ≡ node_of outer
    outermost-is = grind (arith, find-outermost, first-find)

    inlined-is : (k : ℕ) (p : Placed) → slice_get (placed kept before) k ≡ Some p → inlined_in holds (reverse before) p.0 ≡ node_of (inner k)
    inlined-is k p h = grind (arith, find-inlined, first-find)

    -- a step inwards goes forward
    pub goes-forward : (k j : ℕ) (p : Placed) → slice_get (placed kept before) k ≡ Some p → inner k ≡ Some j → (q : Placed) × (slice_get (placed kept before) j ≡ Some q) × (k < j)
    goes-forward k j p h step =
        lies-after holds (placed kept before) k j p found.rises found.around h (sym (found.inwards k p h) ∙ step)

    -- nothing lies in the last one
    none-after : (k : ℕ) (p : Placed) → slice_get (placed kept before) k ≡ Some p → length (placed kept before) ≤ k + 1 → inner k ≡ None
    none-after k p h last =
        let past : (j : ℕ) → inner k ≡ Some j → ⊥ = λ j e. let x = goes-forward k j p h e in let w = slice_get_within (placed kept before) j x.0 x.1 in let f = x.2 in absurd (omega (arith, w, f, last)) in
        grind (arith, past)

    -- the functions from a number on inwards
    unfoldable pub climb : ℕ → Option ℕ → List Node
    climb zero k = []
    climb (suc most) None = []
    climb (suc most) (Some k) = option_map_or (λ (p : Placed). p.0 ∷ climb most (inner k)) (slice_get (placed kept before) k) []

    abbrev Climbs : ℕ → ℕ → Node → Option ℕ → Type 0
    Climbs most steps node next =
        MatchResult (items_up_to (next_inwards holds (reverse before)) most node) (λ found. found.0 ≡ climb steps next) (λ e. ⊥)

    stopped : (steps : ℕ) → climb steps None ≡ []
    unfolding climb
    stopped steps = grind arith

    -- no function lies further inwards
    stays : (most steps : ℕ) (node : Node) → inlined_in holds (reverse before) node ≡ None → Climbs most steps node None
    unfolding items_up_to next_inwards climb
    stays zero steps node none = grind (arith, stopped steps)
    stays (suc most) steps node none = grind (arith, stopped steps)

    -- one does
    goes : (most steps j : ℕ) (node : Node) (q : Placed) → inlined_in holds (reverse before) node ≡ Some q.0 → slice_get (placed kept before) j ≡ Some q → Climbs most steps q.0 (inner j) → Climbs (suc most) (suc steps) node (Some j)
    unfolding items_up_to next_inwards climb
    goes most steps j node q some there later = grind arith

    -- with as many steps as there are functions after a number, all of them are found
    climbs : (most steps k : ℕ) (p : Placed) → slice_get (placed kept before) k ≡ Some p → length (placed kept before) ≤ k + 1 + most → length (placed kept before) ≤ k + 1 + steps → Climbs most steps p.0 (inner k)
    climbs zero steps k p h enough more =
        let none = none-after k p h (omega (arith, enough)) in
        rw none (stays zero steps p.0 (inlined-is k p h ∙ ap node_of none))
    climbs (suc most) zero k p h enough more =
        let none = none-after k p h (omega (arith, more)) in
        rw none (stays (suc most) zero p.0 (inlined-is k p h ∙ ap node_of none))
    climbs (suc most) (suc steps) k p h enough more =
        by_next (λ j q g f. climbs most steps j q g (omega (arith, enough, f)) (omega (arith, more, f))) (inner k) refl
      where
        by_next : ((j : ℕ) (q : Placed) → slice_get (placed kept before) j ≡ Some q → k < j → Climbs most steps q.0 (inner j)) → (next : Option ℕ) → inner k ≡ next → Climbs (suc most) (suc steps) p.0 next
        by_next later None e = stays (suc most) (suc steps) p.0 (inlined-is k p h ∙ ap node_of e)
        by_next later (Some j) e =
            let x = goes-forward k j p h e in
            goes most steps j p.0 x.0 (inlined-is k p h ∙ ap node_of e ∙ ap (option_map (λ (p : Placed). p.0)) x.1) x.1 (later j x.0 x.1 x.2)

    outermost-there : (k : ℕ) → outer ≡ Some k → (p : Placed) × (slice_get (placed kept before) k ≡ Some p)
    outermost-there k e = grind (arith, first-is)

    -- the chain, by numbers
    pub chain-climbs : chain_in holds (reverse before) ≡ reverse (climb (length (placed kept before)) outer)
    unfolding chain_in climb
    chain-climbs = by_outer outer refl
      where
        by_outer : (o : Option ℕ) → outer ≡ o → chain_in holds (reverse before) ≡ reverse (climb (length (placed kept before)) o)
        by_outer None e = rw (outermost-is ∙ ap node_of e, stopped (length (placed kept before))) refl
        by_outer (Some k) e =
            let there = outermost-there k e in
            let w = slice_get_within (placed kept before) k there.0 there.1 in
            let fewer = placed-fewer kept before in
            let c = climbs (length (reverse before)) (length (placed kept before) - 1) k there.0 there.1 (omega (arith, fewer, length-reverse before)) (omega arith) in
            let size : length (placed kept before) ≡ suc (length (placed kept before) - 1) = omega (arith, w) in
            rw (outermost-is ∙ ap node_of e ∙ ap (option_map (λ (p : Placed). p.0)) there.1, size, there.1) (grind (arith, c))
