-- Steps of which each may find nothing: `?` at an `Option`.
use Rattle.std.specs.Prelude.{Option, Some, None, Bool, true, false, option_and_then}

infixl 10 ◌>>=◌
abbrev pub ◌>>=◌ : {A B : Type 0} → Option A → (A → Option B) → Option B
o >>= f = option_and_then f o

-- goes on where the test holds
abbrev pub only_if : Bool → Option (Unit {0})
only_if true = Some tt
only_if false = None
