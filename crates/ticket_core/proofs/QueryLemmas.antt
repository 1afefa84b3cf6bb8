-- A query and its two words.
use Rattle.std.proofs.Common.{◌≡◌, arith}
use Rattle.std.proofs.lemmas.Bool.{ne_eqb}
use Rattle.ticket_core.specs.declared.query.Query.{Query}
use Rattle.ticket_core.specs.declared.query.QueryKind.TheVariants.{Address, Span}
use Rattle.ticket_core.specs.Query.{IsQuery, first_word, second_word, AreWords, of_words}

-- the query that is kept in its words is itself
pub of_words-words : (query : Query) → IsQuery query → of_words (first_word query) (second_word query) ≡ query
of_words-words query is = grind (arith, ne_eqb)

-- and it may be kept in them
pub words-allowed : (query : Query) → IsQuery query → AreWords (first_word query) (second_word query)
words-allowed (Address a) is some = absurd (omega arith)
words-allowed (Span low high) is some = is
