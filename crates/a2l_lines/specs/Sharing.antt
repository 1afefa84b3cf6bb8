-- What is asked for some inputs: each query once, and for each input which answer is its own.
use Rattle.std.specs.Prelude.{◌≡◌, ◌<◌, ◌≤◌, ◌==◌, ◌&&◌, if◌then◌else◌, nat_lt, ◌+◌, ◌-◌, ℕ, zero, suc, Bool}
use Rattle.std.specs.Prelude.{List, [], ◌∷◌, ◌++◌, length, map, get_or, Option, Some, None}
use Rattle.std.specs.List.{All, Contains}
use Rattle.ticket_core.specs.declared.query.Query.{Query}
use Rattle.ticket_core.specs.declared.query.QueryKind.TheVariants.{Address}
use Rattle.ticket_core.specs.Query.{first_word, second_word}
use Rattle.a2l_lines.specs.declared.input.Input.{Input}
use Rattle.a2l_lines.specs.declared.shares.Sharing.{Sharing}
use Rattle.a2l_lines.specs.Input.{input_shown}
use Rattle.a2l_lines.specs.Queries.{query_at, IsUpTo, AreRising}

-- what an input with this pick asks for: none is a bad address, k + 1 the query at k among those
-- asked
abbrev pub picked : List Query → ℕ → Option Query
picked asked zero = None
picked asked (suc k) = Some (query_at asked k)

-- The queries among some inputs, and the way back, which is a pick for each input.
pub record Shares (inputs : List (Option Query)) (asked : List Query) (picks : List ℕ) : Type 0 where
  pub needed : All (λ query. Contains inputs (Some query)) asked
  pub within : All (λ pick. pick ≤ length asked) picks
  pub back : map (picked asked) picks ≡ inputs

-- the same of inputs and what is kept of their sharing
abbrev pub IsSharing : List Input → Sharing → Type 0
IsSharing inputs sharing = Shares (map input_shown inputs) sharing.asked.items sharing.picks.items

-- each query is there once, in order
abbrev pub SharesOnce : List Input → Sharing → Type 0
SharesOnce inputs sharing = IsSharing inputs sharing × AreRising sharing.asked.items

-- one sharing does for all inputs for which another does
abbrev pub DoesFor : Sharing → Sharing → Type 0
DoesFor old new =
    (inputs : List (Option Query)) → Shares inputs old.asked.items old.picks.items
    → Shares inputs new.asked.items new.picks.items

-- ---- on the way there

-- a query and the index of an input
abbrev pub Pair : Type 0
Pair = Query × ℕ

abbrev pub pair_at : List Pair → ℕ → Pair
pair_at pairs k = get_or pairs k (Address 0, 0)

-- each query among some inputs, with the index of its input
pub record ArePairs (inputs : List (Option Query)) (pairs : List Pair) : Type 0 where
  pub right : All (λ pair. get_or inputs pair.1 None ≡ Some pair.0) pairs
  pub all : (j : ℕ) (query : Query) → get_or inputs j None ≡ Some query → Contains pairs (query, j)

-- none comes after the one after it
abbrev pub AreInOrder : List Pair → Type 0
AreInOrder pairs = (k : ℕ) → k + 1 < length pairs → IsUpTo (pair_at pairs k).0 (pair_at pairs (k + 1)).0

-- the last of them, where there is one
abbrev pub last_of : List Query → Query
last_of asked = query_at asked (length asked - 1)

-- two queries have the same words
abbrev pub has_words_of : Query → Query → Bool
has_words_of query other = first_word other == first_word query && second_word other == second_word query

-- it is the last of them
abbrev pub is_last : Query → List Query → Bool
is_last query asked = nat_lt 0 (length asked) && has_words_of query (last_of asked)

-- a query after those asked, where it isn't the last of them already
abbrev pub added : Query → List Query → List Query
added query asked = if is_last query asked then asked else asked ++ query ∷ []
