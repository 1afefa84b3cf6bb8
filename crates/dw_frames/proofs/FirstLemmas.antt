-- The number of the first element that passes a test.
use Rattle.std.proofs.Common.{◌≡◌, ℕ, suc, ◌<◌, Bool, true, cond, List, [], ◌∷◌, ◌++◌, length, map, Option, Some, None, refl, arith}
use Rattle.std.specs.Prelude.{option_map, option_and_then, slice_get, find}
use Rattle.std.specs.Option.{option_or}
use Rattle.std.proofs.lemmas.Option.{same_Some, slice_get_within}
use Rattle.dw_model.specs.Ranges.{Range, covers}
use Rattle.dw_index.specs.Owners.{least_owner}
use Rattle.dw_index.proofs.OwnerLemmas.{least_owner-append}
use Rattle.dw_index.proofs.LawLemmas.{of_list}
use Rattle.dw_frames.specs.Placed.{first}

module _ {X : Type 0} (test : X → Bool) where
  pub first-push : (xs : List X) (y : X) → first test (xs ++ y ∷ []) ≡ option_or (first test xs) (cond (test y) (Some (length xs)) None)
  unfolding first
  first-push [] y = grind arith
  first-push (x ∷ xs) y = grind (arith, first-push xs y)

  pub first-find : (xs : List X) → find test xs ≡ option_and_then (slice_get xs) (first test xs)
  unfolding first
  first-find [] = refl
  first-find (x ∷ xs) = grind (arith, first-find xs)

  mapped : (found : Option ℕ) (k : ℕ) → option_map suc found ≡ Some k → (j : ℕ) × (found ≡ Some j) × (k ≡ suc j)
  mapped found k e = grind (arith, same_Some)

  pub first-is : (xs : List X) (k : ℕ) → first test xs ≡ Some k → (x : X) × (slice_get xs k ≡ Some x) × (test x ≡ true)
  unfolding first
  first-is [] k e = absurd cc
  first-is (x ∷ xs) k e = grind (arith, same_Some, mapped, first-is xs)

pub first-within : {X : Type 0} (test : X → Bool) (xs : List X) (k : ℕ) → first test xs ≡ Some k → k < length xs
first-within test xs k e = let x = first-is test xs k e in slice_get_within xs k x.0 x.1

-- ---- owners of ranges

-- a last owner owns only what no other does
owner-push : (pairs : List (Range × ℕ)) (ranges : List Range) (n a : ℕ) → ((k : ℕ) → least_owner pairs a ≡ Some k → k < n) → least_owner (pairs ++ map (λ range. (range, n)) ranges) a ≡ option_or (least_owner pairs a) (cond (covers a ranges) (Some n) None)
owner-push pairs ranges n a below = grind (arith, least_owner-append, of_list)

-- with one more element, whose test holds just in the ranges of a last owner
pub owner-more : {X : Type 0} (test : X → Bool) (all : List X) (x : X) (pairs : List (Range × ℕ)) (ranges : List Range) (n a : ℕ) → n ≡ length all → least_owner pairs a ≡ first test all → test x ≡ covers a ranges → least_owner (pairs ++ map (λ range. (range, n)) ranges) a ≡ first test (all ++ x ∷ [])
owner-more test all x pairs ranges n a size same is = grind (arith, owner-push, first-within, first-push)
