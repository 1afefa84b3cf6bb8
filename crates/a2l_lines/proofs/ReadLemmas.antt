-- Reading an input to its end.
use Rattle.std.proofs.Common.{ℕ, List, Option}
use Rattle.std.specs.Io.KnownBytes.{Consumes}

-- what was read and what is still to come is all that was to come
abbrev pub Reads : Option (List ℕ) → Option (List ℕ) → List ℕ → Type 0
Reads old now bytes = Consumes old now bytes
