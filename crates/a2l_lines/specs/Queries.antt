-- Lists of queries, and their order.
use Rattle.std.specs.Prelude.{◌≡◌, ◌+◌, ◌<◌, ◌≤◌, ◌⊎◌, ℕ, List, length, slice_index_or}
use Rattle.ticket_core.specs.declared.query.Query.{Query}
use Rattle.ticket_core.specs.declared.query.QueryKind.TheVariants.{Address}
use Rattle.ticket_core.specs.Query.{first_word, second_word}

-- the query at an index
abbrev pub query_at : List Query → ℕ → Query
query_at queries i = slice_index_or queries i (Address 0)

-- It comes before another: it begins at a lower address, or at the same one and ends at a lower
-- one. An address comes before the spans that begin with it.
abbrev pub IsBefore : Query → Query → Type 0
IsBefore query other =
    (first_word query < first_word other)
    ⊎ ((first_word query ≡ first_word other) × (second_word query < second_word other))

-- it comes before another, or both have the same words
abbrev pub IsUpTo : Query → Query → Type 0
IsUpTo query other =
    (first_word query < first_word other)
    ⊎ ((first_word query ≡ first_word other) × (second_word query ≤ second_word other))

-- each comes before the next, so none is there twice
abbrev pub AreRising : List Query → Type 0
AreRising queries = (k : ℕ) → k + 1 < length queries → IsBefore (query_at queries k) (query_at queries (k + 1))
