-- What reads and writes do.
use Rattle.std.specs.Prelude.{◌≡◌, ◌++◌, ◌&&◌, not, ℕ, List, [], take, Option, Result, Ok, Err, ◌==◌, if◌then◌else◌}
use Rattle.std.specs.Io.KnownBytes.{append_known}
use Rattle.a2l_lines.specs.declared.streams.Failed.{Failed}

-- what a write took of a piece
abbrev pub taken : Result ℕ Failed → List ℕ → List ℕ
taken (Ok n) piece = take n piece
taken (Err e) piece = []

-- what a read of n bytes gave
abbrev pub given : ℕ → List ℕ → List ℕ
given n buffer = take n buffer

-- how many failures a call on a piece of this length is: an error is one, and so is a write that
-- takes nothing of something
abbrev pub failures_of : Result ℕ Failed → ℕ → ℕ
failures_of (Ok n) len = if n == 0 && not (len == 0) then 1 else 0
failures_of (Err e) len = 1

-- The writer held old and holds new: after what it held is the text up to `rest`, if what it holds
-- is known.
pub record Writes (old new : Option (List ℕ)) (text rest : List ℕ) : Type 0 where
  pub front : List ℕ
  pub parts : text ≡ front ++ rest
  pub written : new ≡ append_known old front

-- a beginning of the text was written
abbrev pub WritesBeginning : Option (List ℕ) → Option (List ℕ) → List ℕ → Type 0
WritesBeginning old new text = (rest : List ℕ) × Writes old new text rest

-- a piece after a block was written, but for what is left of it
abbrev pub Puts : (old new : Option (List ℕ)) → (block piece left : List ℕ) → Type 0
Puts old new block piece left = Writes old new (block ++ piece) left

-- a beginning of both was written
abbrev pub PutsBeginning : (old new : Option (List ℕ)) → (block piece : List ℕ) → Type 0
PutsBeginning old new block piece = WritesBeginning old new (block ++ piece)

-- all of a text was written
abbrev pub WritesAll : (old new : Option (List ℕ)) → List ℕ → Type 0
WritesAll old new text = new ≡ append_known old text
