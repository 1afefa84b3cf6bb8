-- The pool that answers queries.
use Rattle.std.specs.Prelude.{ℕ, ◌^◌, List, min, max}
use Rattle.dw_symbols.specs.declared.answer.Answer.{Answer}
use Rattle.dw_symbols.specs.Told.{means}
use Rattle.ticket_core.specs.declared.query.Query.{Query}
use Rattle.a2l_lines.specs.Order.{AreAnswers}
use Rattle.ticket_core.specs.declared.shape.Shape.{Shape}

-- its shape, for so many senders and workers
abbrev pub shape_of : (senders workers : ℕ) → Shape
shape_of senders workers = record { senders = senders; workers = workers; window = 16; most = 2 ^ 60 }

-- so many workers, but no more than there are queries, and one at least
abbrev pub workers_for : (workers queries : ℕ) → ℕ
workers_for workers queries = max (min workers queries) 1

-- these are the answers of a file to queries
abbrev pub AreAnswersOf : List ℕ → List Query → List Answer → Type 0
AreAnswersOf file queries answers = AreAnswers (means file) queries answers
