-- Ranges whose addresses have owners.
use Rattle.std.specs.Prelude.{◌≡◌, ◌<◌, ℕ, true, List, Some, map}
use Rattle.dw_model.specs.Ranges.{Range, covers}
use Rattle.dw_index.specs.Owners.{least_owner}

-- ranges of one owner
abbrev pub owned : List Range → ℕ → List (Range × ℕ)
owned ranges owner = map (λ range. (range, owner)) ranges

-- each address of the ranges has an owner below a number
abbrev pub AreOwned : List (Range × ℕ) → ℕ → List Range → Type 0
AreOwned pairs bound ranges =
    (a : ℕ) → covers a ranges ≡ true → (owner : ℕ) × (least_owner pairs a ≡ Some owner) × (owner < bound)
