-- The functions of a tree that are kept, in order, each with the function in which it lies.
use Rattle.std.specs.Prelude.{◌≡◌, ◌<◌, ◌≤◌, ℕ, zero, suc, ◌+◌, length, min, Bool, cond, List, [], ◌∷◌, ◌++◌, map}
use Rattle.std.specs.Prelude.{Option, Some, None, option_map, slice_get, nat_lt, ◌&&◌}
use Rattle.dw_model.specs.Entry.{Entry}
use Rattle.dw_model.specs.Section.{Sections}
use Rattle.dw_model.specs.Unit.{DwarfUnit}
use Rattle.dw_model.specs.Tree.{Node, is_function, is_subprogram, is_inlined, enclosing, is_at, holds_address}
use Rattle.dw_ranges.specs.Claims.{owner_in}
use Rattle.dw_frames.specs.Rising.{Rises}
use Rattle.dw_frames.specs.Drafts.{Drafts, inside, is_kept, outermost}

-- a function, and the one in which it lies
abbrev pub Placed : Type 0
Placed = Node × Option Node

-- those of a list of nodes that are kept; the nearest node comes first
unfoldable pub placed : (Entry → Bool) → List Node → List Placed
placed kept [] = []
placed kept (node ∷ before) =
    cond (kept node.entry) (placed kept before ++ (node, enclosing (node ∷ []) before) ∷ []) (placed kept before)

abbrev pub offset_of : Placed → ℕ
offset_of p = p.0.entry.offset

-- the last function that is less deep than a bound, and less deep than all after it
unfoldable pub near : ℕ → List Node → Option Node
near d [] = None
near d (node ∷ before) =
    cond (is_function node.entry && nat_lt node.depth d) (Some node) (near (min d node.depth) before)

-- the number of the first element that passes a test
unfoldable pub first : {X : Type 0} → (X → Bool) → List X → Option ℕ
first test [] = None
first test (x ∷ xs) = cond (test x) (Some 0) (option_map suc (first test xs))

-- a subprogram that holds an address
abbrev pub is_outermost : (Entry → Bool) → Placed → Bool
is_outermost holds p = is_subprogram p.0.entry && holds p.0.entry

-- an inlined function that holds an address, and lies directly in the function of an offset
abbrev pub lies_in : (Entry → Bool) → ℕ → Placed → Bool
lies_in holds offset p = is_inlined p.0.entry && holds p.0.entry && is_at p.1 offset

-- The group is of what is inlined in the function that was found; where it is that of what is
-- inlined in none that is kept, no such function was found.
abbrev pub Names : List Placed → ℕ → Option Node → Type 0
Names all zero found = ⊥
Names all (suc zero) found = (node : Node) → found ≡ Some node → (k : ℕ) (p : Placed) → slice_get all k ≡ Some p
    → offset_of p ≡ node.entry.offset → ⊥
Names all (suc (suc k)) found = (p : Placed) × (slice_get all k ≡ Some p) × (found ≡ Some p.0)

-- each node is before the one that was read after it, and all before a bound
abbrev pub Falls : ℕ → List Node → Type 0
Falls bound [] = Unit {0}
Falls bound (node ∷ before) = (node.entry.offset < bound) × Falls node.entry.offset before

-- The functions among the nodes so far that have ranges are kept, with all that was inlined in
-- them, and each open list names the function in which its entries lie. Offsets are below a bound.
pub record Follows (s : Sections) (unit : DwarfUnit) (before : List Node) (drafts : Drafts) (bound : ℕ) : Type 0 where
  pub functions : drafts.functions ≡ map offset_of (placed (is_kept s unit) before)
  pub falls : Falls bound before
  pub rises : Rises (map offset_of (placed (is_kept s unit) before))
  pub below : (k : ℕ) (p : Placed) → slice_get (placed (is_kept s unit) before) k ≡ Some p → offset_of p < bound
  pub around : (k : ℕ) (p : Placed) (e : Node) → slice_get (placed (is_kept s unit) before) k ≡ Some p
      → p.1 ≡ Some e → e.entry.offset < offset_of p
  pub outermost : (a : ℕ)
      → owner_in drafts.claims outermost a ≡ first (is_outermost (holds_address s unit a))
      (placed (is_kept s unit) before)
  pub inlined : (k a : ℕ) (p : Placed) → slice_get (placed (is_kept s unit) before) k ≡ Some p
      → owner_in drafts.claims (inside k) a ≡ first (lies_in (holds_address s unit a) (offset_of p))
      (placed (is_kept s unit) before)
  pub unowned : (k a : ℕ) → length (placed (is_kept s unit) before) ≤ k → owner_in drafts.claims (inside k) a ≡ None
  pub lists : (i group : ℕ) → slice_get drafts.lists i ≡ Some group
      → Names (placed (is_kept s unit) before) group (near (i + 1) before)
