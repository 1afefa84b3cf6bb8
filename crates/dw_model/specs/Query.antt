-- What is asked of a file.
use Rattle.std.specs.Prelude.{ℕ, List}
use Rattle.dw_model.specs.Answer.{Answer, answer}
use Rattle.dw_model.specs.Pieces.{pieces}

-- about an address; or about a span, the addresses from `low` on and below `high`
pub data Query : Type 0 where
  address : (a : ℕ) → Query
  span : (low high : ℕ) → Query

-- What it means: of an address its frames, of a span its pieces.
abbrev pub meaning : List ℕ → Query → Answer
meaning file (address a) = answer file a
meaning file (span low high) = pieces file low high
