-- Where a walk over addresses may pass from one stretch to the next.
use Rattle.std.specs.Prelude.{◌≡◌, ◌≢◌, ◌<◌, ℕ, List, ◌∷◌, drop, Option, IfSome, MatchOption, slice_get}
use Rattle.dw_model.specs.Matrix.{Row}
use Rattle.dw_model.specs.Steady.{last_address}
use Rattle.dw_line.specs.Sequences.{used_sequences, number_among}

-- another sequence holds the address, or none, unless it is the last of all
abbrev pub OwnerEnds : List Row → Option ℕ → ℕ → Type 0
OwnerEnds rows number until = until < last_address → number_among (used_sequences rows) until ≢ number

-- One of these rows has the address.
pub record HasRowAt (rows : List Row) (a : ℕ) : Type 0 where
  pub passed : ℕ
  pub row : Row
  pub others : List Row
  pub is : drop passed rows ≡ row ∷ others
  pub address : row.address ≡ a

-- the used sequence with a number has a property
abbrev pub InSequence : List Row → (List Row → Type 0) → ℕ → Type 0
InSequence rows P number = IfSome (slice_get (used_sequences rows) number) P

-- Where the same used sequence holds two addresses, one of its rows has the second; and it isn't so
-- that none holds them.
abbrev pub IsBorder : List Row → (at end : ℕ) → Type 0
IsBorder rows at end =
    number_among (used_sequences rows) end ≡ number_among (used_sequences rows) at
    → MatchOption (number_among (used_sequences rows) at) ⊥ (InSequence rows (λ rows. HasRowAt rows end))
