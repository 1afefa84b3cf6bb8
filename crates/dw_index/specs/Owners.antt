-- The least owner of an address, among ranges that have owners.
use Rattle.std.specs.Prelude.{◌≡◌, ◌≤◌, ℕ, ◌+◌, true, List, [], ◌∷◌, ◌++◌, map, Option, Some, None, min, if◌then◌else◌}
use Rattle.std.specs.List.{All, Any}
use Rattle.dw_model.specs.Ranges.{Range, holds}

-- of two owners the lesser, where there are two
abbrev pub least : Option ℕ → Option ℕ → Option ℕ
least None other = other
least (Some x) None = Some x
least (Some x) (Some y) = Some (min x y)

-- the owner of a range, where it holds the address
abbrev pub owner_in : ℕ → Range × ℕ → Option ℕ
owner_in a pair = if holds a pair.0 then Some pair.1 else None

-- the least owner of the ranges that hold the address
unfoldable pub least_owner : List (Range × ℕ) → ℕ → Option ℕ
least_owner [] a = None
least_owner (pair ∷ pairs) a = least (owner_in a pair) (least_owner pairs a)

-- the ranges of several lists, each owned by the index of its list, counted from a first one
abbrev pub numbered : ℕ → List (List Range) → List (Range × ℕ)
numbered first [] = []
numbered first (ranges ∷ lists) = map (λ range. (range, first)) ranges ++ numbered (first + 1) lists

-- The owner is that of a range that holds the address, and no such range has a lesser.
pub record IsLeastOwner (pairs : List (Range × ℕ)) (a owner : ℕ) : Type 0 where
  pub owns : Any (λ pair. (holds a pair.0 ≡ true) × (pair.1 ≡ owner)) pairs
  pub none_less : All (λ pair. holds a pair.0 ≡ true → owner ≤ pair.1) pairs
