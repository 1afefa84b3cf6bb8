-- Numbers that rise.
use Rattle.std.proofs.Common.{◌≡◌, ℕ, ◌<◌, List, [], ◌∷◌, ◌++◌, Some, arith}
use Rattle.std.specs.Prelude.{slice_get}
use Rattle.std.proofs.lemmas.Option.{same_Some, slice_get_within}
use Rattle.std.proofs.lemmas.Bool.{cases_order}
use Rattle.dw_ranges.proofs.GetLemmas.{get-pushed}
use Rattle.dw_frames.specs.Rising.{Rises}

-- numbers that rise are once each
pub rises-once : (xs : List ℕ) (i j x : ℕ) → Rises xs → slice_get xs i ≡ Some x → slice_get xs j ≡ Some x → i ≡ j
rises-once xs i j x rises e f = grind (arith, cases_order)

-- the greater of two numbers is after the other
pub rises-order : (xs : List ℕ) (i j x y : ℕ) → Rises xs → slice_get xs i ≡ Some x → slice_get xs j ≡ Some y → x < y → i < j
rises-order xs i j x y rises e f h = grind (arith, cases_order, same_Some)

pub rises-push : (xs : List ℕ) (y : ℕ) → Rises xs → ((k x : ℕ) → slice_get xs k ≡ Some x → x < y) → Rises (xs ++ y ∷ [])
rises-push xs y rises below i j x z h e f = grind (arith, get-pushed, slice_get_within)
