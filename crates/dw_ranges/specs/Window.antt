-- Owners whose lists are held by name, at the addresses of a window.
use Rattle.std.specs.Prelude.{◌≡◌, ◌≤◌, ◌<◌, ℕ, false, List, ◌++◌, Some, None, map}
use Rattle.dw_model.specs.Ranges.{Range, covers}
use Rattle.dw_model.specs.Text.{Tables}
use Rattle.dw_index.specs.declared.range.Range.{Range as CodeRange}
use Rattle.dw_index.specs.declared.segment.Segment.{Segment}
use Rattle.dw_index.specs.Owners.{least, least_owner}
use Rattle.dw_index.specs.Range.{pair_shown}
use Rattle.dw_index.specs.Segments.{owner_at}
use Rattle.dw_ranges.specs.declared.held.HeldList.{HeldList}
use Rattle.dw_ranges.specs.declared.links.Grouped.{Grouped}
use Rattle.dw_ranges.specs.declared.window.Window.{Window}
use Rattle.dw_ranges.specs.declared.window.draft.Draft.{Draft}
use Rattle.dw_ranges.specs.Claims.{held_claims, owner_in}
use Rattle.dw_ranges.specs.Owned.{owned}

-- the window has the address
abbrev pub HasAddress : Window → ℕ → Type 0
HasAddress window a = (window.from ≤ a) × (a < window.until)

-- at each address of the window the least owner in group 0 is found of those lists
abbrev pub IsWindow : Tables → List (Grouped HeldList) → Window → Type 0
IsWindow tables held window =
    (a : ℕ) → HasAddress window a → owner_at window.index a ≡ owner_in (held_claims tables held) 0 a

-- from one address on and below another, where an index finds an owner, some ranges have a least
-- owner that is no greater
abbrev pub HaveNoGreater : List (Range × ℕ) → (from until : ℕ) → List Segment → Type 0
HaveNoGreater all from until index =
    (a owner : ℕ) → from ≤ a → a < until → owner_at index a ≡ Some owner
    → least (least_owner all a) (Some owner) ≡ least_owner all a

-- Of all ranges, as many matter as the draft has at each address of its window, which begins at an
-- address and has it.
pub record HasOwners (all : List (Range × ℕ)) (from : ℕ) (draft : Draft) : Type 0 where
  pub begin : draft.from ≡ from
  pub some : from < draft.until
  pub owners : (a : ℕ) → from ≤ a → a < draft.until
      → least_owner (map pair_shown draft.pairs.items) a ≡ least_owner all a
  pub known : HaveNoGreater all from draft.until draft.known

-- the addresses from one on and below another are known to have an owner, no greater than this
abbrev pub AreKnown : Draft → (begin end owner : ℕ) → Type 0
AreKnown draft begin end owner =
    (a : ℕ) → begin ≤ a → a < end → (first : ℕ) × (owner_at draft.known a ≡ Some first) × (first ≤ owner)

-- The pieces have the owners of the segments, from one address on and below another, and no others.
pub record ArePieces (segments : List Segment) (from end : ℕ) (pieces : List (CodeRange × ℕ)) : Type 0 where
  pub below : (a : ℕ) → from ≤ a → a < end → least_owner (map pair_shown pieces) a ≡ owner_at segments a
  pub above : (a : ℕ) → end ≤ a → least_owner (map pair_shown pieces) a ≡ None

-- Of the ranges of an owner those that begin below an address were added to a draft, as far as they
-- matter in its window, as pieces.
pub record PiecesTo (ranges : List Range) (owner at : ℕ) (old new : Draft) : Type 0 where
  pub pieces : List Range
  pub reached : old.from ≤ at
  pub below : (a : ℕ) → old.from ≤ a → a < at → covers a pieces ≡ covers a ranges
  pub above : (a : ℕ) → at ≤ a → covers a pieces ≡ false
  pub added : (all : List (Range × ℕ)) (from : ℕ) → HasOwners all from old
      → HasOwners (all ++ owned pieces owner) from new
