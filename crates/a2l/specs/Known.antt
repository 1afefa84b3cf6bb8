-- What is known of files.
use Rattle.std.specs.Prelude.{List, ℕ, Option, IfSome, IsSomeAnd}

-- what is at a path, where that is known: the bytes of a file, or none that can be read
abbrev pub Known : Type 0
Known = Option (Option (List ℕ))

-- if it is known, there is a file, and this holds of its bytes
abbrev pub OfFile : Known → (List ℕ → Type 0) → Type 0
OfFile known P = IfSome known (λ there. IsSomeAnd there P)
