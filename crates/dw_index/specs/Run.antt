-- Segments of ranges that are in order of address.
use Rattle.std.specs.Prelude.{◌≡◌, ◌≤◌, ◌<◌, ◌*◌, ◌+◌, ℕ, List, length, Option, Some, None}
use Rattle.dw_model.specs.Ranges.{Range}
use Rattle.dw_index.specs.declared.segment.Segment.{Segment}
use Rattle.dw_index.specs.Owners.{least_owner}
use Rattle.dw_index.specs.Segments.{owner_at, AreSegments, Below}

-- how many segments are missing after the last range, which has this owner
abbrev pub missing : Option ℕ → ℕ
missing None = 0
missing (Some owner) = 1

-- The segments are those of the ranges, which end at the end or before; from there on they still
-- have the last one's owner, where the gap after it is missing.
pub record IsRun (pairs : List (Range × ℕ)) (found : List Segment) (end : ℕ) (owner : Option ℕ) : Type 0 where
  pub before : (a : ℕ) → a < end → owner_at found a ≡ least_owner pairs a
  pub behind : (a : ℕ) → end ≤ a → least_owner pairs a ≡ None
  pub last : (a : ℕ) → end ≤ a → owner_at found a ≡ owner
  pub segments : AreSegments 0 None found
  pub below : Below end found
  pub size : length found + missing owner ≤ 2 * length pairs

-- The same with the gap after the last range.
pub record IsClosed (pairs : List (Range × ℕ)) (found : List Segment) (end : ℕ) : Type 0 where
  pub owners : (a : ℕ) → owner_at found a ≡ least_owner pairs a
  pub behind : (a : ℕ) → end ≤ a → least_owner pairs a ≡ None
  pub segments : AreSegments 0 None found
  pub below : Below (end + 1) found
  pub size : length found ≤ 2 * length pairs
