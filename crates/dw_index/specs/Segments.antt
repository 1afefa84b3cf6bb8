-- Segments of addresses, each with one owner.
use Rattle.std.specs.Prelude.{◌≡◌, ◌≢◌, ◌≤◌, ◌<◌, ℕ, zero, suc, ◌+◌, ◌*◌, nat_le, ◌==◌, if◌then◌else◌}
use Rattle.std.specs.Prelude.{List, [], ◌∷◌, length, Option, Some, None}
use Rattle.std.specs.List.{AllByRecursion, fold}
use Rattle.dw_index.specs.declared.segment.Segment.{Segment}
use Rattle.dw_model.specs.Ranges.{Range}
use Rattle.dw_index.specs.Owners.{least, least_owner}

-- the owner of an address after a segment's begin, where that isn't above it; else the one before
abbrev pub passed : ℕ → Option ℕ → Segment → Option ℕ
passed a before segment = if nat_le segment.begin a then segment.owner else before

-- the owner of an address, where those below all segments have another
abbrev pub owner_from : Option ℕ → List Segment → ℕ → Option ℕ
owner_from before segments a = fold (passed a) before segments

-- the owner of an address: that of the last segment that doesn't begin above it
abbrev pub owner_at : List Segment → ℕ → Option ℕ
owner_at segments a = owner_from None segments a

-- The segments begin at a bound or above, each above the one before it, and each has another owner
-- than the one before it.
abbrev pub AreSegments : (bound : ℕ) → (before : Option ℕ) → List Segment → Type 0
AreSegments bound before [] = Unit {0}
AreSegments bound before (segment ∷ segments) =
    (bound ≤ segment.begin) × (segment.owner ≢ before) × AreSegments (segment.begin + 1) segment.owner segments

-- all segments begin below a bound
abbrev pub Below : ℕ → List Segment → Type 0
Below bound segments = AllByRecursion (λ segment. segment.begin < bound) segments

-- ---- two lists of segments in one

-- where the first segment begins
abbrev pub border : List Segment → Option ℕ
border [] = None
border (segment ∷ segments) = Some segment.begin

-- the owner after a border that is at most the first one, and the segments after it
abbrev pub past_owner : ℕ → Option ℕ → List Segment → Option ℕ
past_owner at owner [] = owner
past_owner at owner (segment ∷ segments) = if segment.begin == at then segment.owner else owner

abbrev pub past_rest : ℕ → List Segment → List Segment
past_rest at [] = []
past_rest at (segment ∷ segments) = if segment.begin == at then segments else segment ∷ segments

-- the segments have the lesser owner of the two lists at each address, and there are no more of
-- them
pub record IsMerged (first second merged : List Segment) : Type 0 where
  pub owners : (a : ℕ) → owner_at merged a ≡ least (owner_at first a) (owner_at second a)
  pub segments : AreSegments 0 None merged
  pub size : length merged ≤ length first + length second

-- ---- the index of ranges

-- where the segment at an index begins
abbrev pub begin_at : List Segment → ℕ → ℕ
begin_at [] k = 0
begin_at (segment ∷ segments) zero = segment.begin
begin_at (segment ∷ segments) (suc k) = begin_at segments k

-- the segments are an index of the ranges: they have the least owner at each address, and there are
-- at most twice as many
pub record AreIndexOf (pairs : List (Range × ℕ)) (found : List Segment) : Type 0 where
  pub owners : (a : ℕ) → owner_at found a ≡ least_owner pairs a
  pub segments : AreSegments 0 None found
  pub size : length found ≤ 2 * length pairs
