-- Segments of ranges that are in order of address, one range after the other.
use Rattle.std.proofs.Common.{◌≡◌, ◌≢◌, ◌≤◌, ◌<◌, ℕ, List, [], ◌∷◌, ◌++◌, Option, Some, None, arith, length-append}
use Rattle.std.proofs.lemmas.Bool.{cases_lt, le-leb, lt-leb}
use Rattle.dw_model.specs.Ranges as model
use Rattle.dw_index.specs.declared.segment.Segment.{Segment}
use Rattle.dw_index.specs.Owners.{least, least_owner}
use Rattle.dw_index.specs.Run.{IsRun, IsClosed}
use Rattle.dw_index.proofs.OwnerLemmas.{least_owner-append}
use Rattle.dw_index.proofs.SegmentLemmas.{below_more, below_push, owner-push, push}
use Rattle.dw_index.proofs.IndexLemmas.{pair, only}

pub run_of_none : IsRun [] [] 0 None
unfolding least_owner
run_of_none = grind arith

-- ---- the gap after the last range

abbrev gap : ℕ → Segment
gap end = record { begin = end; owner = None }

pub closes : (pairs : List (model.Range × ℕ)) (found : List Segment) (end owner : ℕ) → IsRun pairs found end (Some owner) → IsClosed pairs (found ++ gap end ∷ []) end
closes pairs found end owner r =
    grind (arith, owner-push, cases_lt, lt-leb, le-leb, push, below_push, below_more, length-append, r.last end)

-- ---- one more range

module _ (pairs : List (model.Range × ℕ)) (begin end owner : ℕ) (some : begin < end) where
  abbrev more : List (model.Range × ℕ)
  more = pairs ++ pair begin end owner ∷ []

  with_last : (a : ℕ) → least_owner more a ≡ least (least_owner pairs a) (least_owner (pair begin end owner ∷ []) a)
  with_last a = least_owner-append pairs (pair begin end owner ∷ []) a

  least-below : (a : ℕ) → a < begin → least_owner more a ≡ least_owner pairs a
  least-below a h = grind (arith, with_last, only)

  least-within : (a : ℕ) → begin ≤ a → a < end → least_owner pairs a ≡ None → least_owner more a ≡ Some owner
  least-within a h b none = grind (arith, with_last, only)

  least-behind : (a : ℕ) → end ≤ a → least_owner pairs a ≡ None → least_owner more a ≡ None
  least-behind a h none = grind (arith, with_last, only)

  pub extends : (found : List Segment) → IsRun pairs found begin (Some owner) → IsRun more found end (Some owner)
  extends found r = grind (arith, least-below, least-within, least-behind, below_more, length-append)

  abbrev own : Segment
  own = record { begin = begin; owner = Some owner }

  pub grows : (found : List Segment) (before : Option ℕ) → IsRun pairs found begin before → Some owner ≢ before → IsRun more (found ++ own ∷ []) end (Some owner)
  grows found before r other =
      grind (arith, owner-push, cases_lt, lt-leb, least-below, least-within, least-behind, push, below_push, below_more, length-append)
