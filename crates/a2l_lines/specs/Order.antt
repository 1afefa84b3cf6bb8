-- Queries, and the order in which they are asked.
use Rattle.std.specs.Prelude.{◌≡◌, ◌+◌, ◌<◌, ◌≤◌, ℕ, List, length, map, get_or}
use Rattle.std.specs.List.{All, Contains}
use Rattle.dw_model.specs.Answer as model
use Rattle.dw_symbols.specs.Answer.{answer_shown}
use Rattle.dw_symbols.specs.declared.answer.Answer.{Answer}
use Rattle.ticket_core.specs.declared.query.Query.{Query}
use Rattle.a2l_lines.specs.Queries.{query_at}
use Rattle.a2l_lines.specs.Sharing.{picked}

-- The indexes of queries in an order, each after its turn: as many, each is one of theirs, and each
-- of theirs is there.
pub record IsOrder (queries : List Query) (order : List ((ℕ × ℕ) × ℕ)) : Type 0 where
  pub len : length order ≡ length queries
  pub within : All (λ pair. pair.1 < length queries) order
  pub all : (j : ℕ) → j < length queries → (turn : ℕ × ℕ) × Contains order (turn, j)

-- the queries in that order
abbrev pub asked_in : List Query → List ((ℕ × ℕ) × ℕ) → List Query
asked_in queries order = map (λ pair. query_at queries pair.1) order

-- a pick among queries picks the one that another pick does among others
abbrev pub PicksSame : (asked others : List Query) → (pick other : ℕ) → Type 0
PicksSame asked others pick other = (pick ≤ length asked) × (picked asked pick ≡ picked others other)

-- for each pick of queries the pick of the same one in an order
abbrev pub ArePicksIn : List Query → List ((ℕ × ℕ) × ℕ) → List ℕ → Type 0
ArePicksIn queries order picks =
    (length picks ≡ length queries + 1)
    × ((pick : ℕ) → pick ≤ length queries → PicksSame (asked_in queries order) queries (get_or picks pick 0) pick)

-- the answers to queries, by what each means
abbrev pub AreAnswers : (Query → model.Answer) → List Query → List Answer → Type 0
AreAnswers means queries answers = map answer_shown answers ≡ map means queries
