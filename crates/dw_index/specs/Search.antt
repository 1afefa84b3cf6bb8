-- How far a search by halves among segments comes, and in how many steps.
use Rattle.std.specs.Prelude.{◌≤◌, ◌<◌, ◌+◌, ◌^◌, ℕ, List, length}
use Rattle.dw_index.specs.declared.segment.Segment.{Segment}
use Rattle.dw_index.specs.Segments.{begin_at}

-- So many segments don't begin above the address, and the others do.
pub record Passes (segments : List Segment) (a passed : ℕ) : Type 0 where
  pub within : passed ≤ length segments
  pub before : (k : ℕ) → k < passed → begin_at segments k ≤ a
  pub behind : (k : ℕ) → passed ≤ k → k < length segments → a < begin_at segments k

-- the steps from one number to another are at most as many as a size has binary digits
abbrev pub TakesDigits : (size old new : ℕ) → Type 0
TakesDigits size old new = (digits : ℕ) → size < 2 ^ digits → new ≤ old + digits

-- they are at least as many as it takes to halve a size to nothing
abbrev pub TakesHalvings : (size old new : ℕ) → Type 0
TakesHalvings size old new = (halvings : ℕ) → 2 ^ halvings ≤ size + 1 → old + halvings ≤ new
