-- What a context shows as a solver: its answers as trees of numbers.
use Rattle.std.specs.Prelude.{ℕ, List}
use Rattle.ticket_core.specs.State.{Shown}
use Rattle.ticket_core.specs.declared.query.Query.{Query}
use Rattle.ticket_core.specs.declared.query.QueryKind.TheVariants.{Address, Span}
use Rattle.dw_model.specs.Answer as model
use Rattle.dw_model.specs.Query as asked
use Rattle.dw_symbols.specs.declared.answer.Answer.{Answer}
use Rattle.dw_symbols.specs.Answer.{answer_shown}
use Rattle.dw_symbols.specs.Codes.{answer_code}

-- what an answer shows: its record
abbrev pub told : Answer → Shown
told answer = answer_code.code (answer_shown answer)

-- a query of a pool, as one of a file
abbrev pub query_shown : Query → asked.Query
query_shown (Address a) = asked.address a
query_shown (Span low high) = asked.span low high

-- what a query means in a file of these bytes
abbrev pub means : List ℕ → Query → model.Answer
means file query = asked.meaning file (query_shown query)

-- the same as it is shown
abbrev pub meaning : List ℕ → Query → Shown
meaning file query = answer_code.code (means file query)
