-- The segments of one range, and of several.
use Rattle.std.proofs.Common.{◌≡◌, ◌≤◌, ◌<◌, ℕ, List, [], ◌∷◌, ◌++◌, length, Some, None, refl, arith, length-append}
use Rattle.dw_model.specs.Ranges as model
use Rattle.dw_index.specs.declared.range.Range.{Range}
use Rattle.dw_index.specs.declared.segment.Segment.{Segment}
use Rattle.dw_index.specs.Owners.{owner_in, least_owner}
use Rattle.dw_index.specs.Segments.{IsMerged, AreIndexOf}
use Rattle.dw_index.proofs.OwnerLemmas.{least-none, least_owner-append}

pub index_of_none : AreIndexOf [] []
unfolding least_owner
index_of_none = record { owners = λ a. refl; segments = tt; size = omega arith }

-- ---- one range

module _ (begin end owner : ℕ) where
  abbrev pub pair : model.Range × ℕ
  pair = (model.range begin end, owner)

  pub only : (a : ℕ) → least_owner (pair ∷ []) a ≡ owner_in a pair
  unfolding least_owner
  only a = least-none (owner_in a pair)

  pub index_of_empty : end ≤ begin → AreIndexOf (pair ∷ []) []
  index_of_empty h = grind (arith, only)

  abbrev pub two_segments : List Segment
  two_segments =
      record { begin = begin; owner = Some owner } ∷ record { begin = end; owner = None } ∷ []

  pub index_of_one : begin < end → AreIndexOf (pair ∷ []) two_segments
  index_of_one h = grind (arith, only)

-- ---- two halves

pub index_of_both : (pairs others all : List (model.Range × ℕ)) (first second merged : List Segment) → pairs ++ others ≡ all → AreIndexOf pairs first → AreIndexOf others second → IsMerged first second merged → AreIndexOf all merged
index_of_both pairs others all first second merged e x y m = grind (arith, least_owner-append, length-append)

pub no_pairs : (pairs : List (Range × ℕ)) → length pairs ≡ 0 → pairs ≡ []
no_pairs [] h = refl
no_pairs (pair ∷ pairs) h = absurd (omega arith)
