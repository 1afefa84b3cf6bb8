-- Where what is answered changes, from one address to the next.
use Rattle.std.specs.Prelude.{◌≡◌, ◌≢◌, ◌<◌, ◌≤◌, ℕ, ◌-◌, ◌^◌}

-- the last address of all
abbrev pub last_address : ℕ
last_address = 2 ^ 64 - 1

-- The least address above one at which something else is answered than there; the last address of
-- all where there is none.
pub record IsSteady {X : Type 0} (answer : ℕ → X) (a next : ℕ) : Type 0 where
  pub above : a < next
  pub same : (c : ℕ) → a ≤ c → c < next → answer c ≡ answer a
  pub changes : next < last_address → answer next ≢ answer a
