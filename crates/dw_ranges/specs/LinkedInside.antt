-- What linked ranges are seen as, and that their indexes are right.
use Rattle.std.specs.Prelude.{◌≡◌, ◌≤◌, ◌*◌, ℕ, List, Some, length, map, filter, nat_lt, slice_get, sum_by}
use Rattle.dw_index.specs.declared.range.Range.{Range}
use Rattle.dw_index.specs.declared.segment.Segment.{Segment}
use Rattle.dw_index.specs.Owners.{least_owner}
use Rattle.dw_index.specs.Range.{pair_shown}
use Rattle.dw_index.specs.Segments.{owner_at}
use Rattle.dw_ranges.specs.Claims.{Claim, LinkedState, in_group}
use Rattle.dw_ranges.specs.declared.links.Grouped.{Grouped}
use Rattle.dw_ranges.specs.declared.linked.Linked.TheInside.{Inside}

-- ranges that are linked, as claims
abbrev pub claims_linked : List (Grouped (Range × ℕ)) → List Claim
claims_linked links = map (λ one. record { group = one.group; item = pair_shown one.item }) links

-- how many segments indexes have together
abbrev pub segments_in : List (ℕ × List Segment) → ℕ
segments_in indexes = sum_by (λ known. length known.1) indexes

abbrev pub linked_of : Inside → LinkedState
linked_of linked =
    record { claims = claims_linked linked.links; segments = segments_in linked.indexes.items }

-- each index is that of the ranges in its group
abbrev pub AreIndexes : List Claim → List (ℕ × List Segment) → Type 0
AreIndexes ranges indexes =
    (k : ℕ) (known : ℕ × List Segment) → slice_get indexes k ≡ Some known → (a : ℕ)
    → owner_at known.1 a ≡ least_owner (in_group known.0 ranges) a

-- how many ranges are in groups below a number
abbrev pub count_below : ℕ → List Claim → ℕ
count_below number ranges = length (filter (λ one. nat_lt one.group number) ranges)

-- Each index is that of the ranges in its group, and they have two segments at most for each range
-- in groups below a number.
pub record AreIndexed (number : ℕ) (ranges : List Claim) (indexes : List (ℕ × List Segment)) : Type 0 where
  pub each : AreIndexes ranges indexes
  pub few : segments_in indexes ≤ 2 * count_below number ranges

abbrev pub IsIndexed : Inside → Type 0
IsIndexed linked =
    AreIndexes (claims_linked linked.links) linked.indexes.items
    × (segments_in linked.indexes.items ≤ 2 * length (claims_linked linked.links))
