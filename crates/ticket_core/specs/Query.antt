-- A query, and the two words in which it is kept.
use Rattle.std.specs.Prelude.{◌≡◌, ℕ, zero, suc, ◌<◌, Bool, nat_eq, if◌then◌else◌, refl}
use Rattle.std.proofs.Common.{ap}
use Rattle.std.proofs.Math.Dec.{eqb-suc-zero}
use Rattle.ticket_core.specs.declared.query.QueryKind.{QueryKind}
use Rattle.ticket_core.specs.declared.query.QueryKind.TheVariants.{Address, Span}
use Rattle.ticket_core.specs.declared.query.Query.TheInside.{Inside}

-- a span isn't empty
abbrev pub IsQuery : QueryKind → Type 0
IsQuery (Address a) = Unit {0}
IsQuery (Span low high) = low < high

-- the words in which it is kept: an address and 0, or the borders of a span

abbrev pub first_word : QueryKind → ℕ
first_word (Address a) = a
first_word (Span low high) = low

abbrev pub second_word : QueryKind → ℕ
second_word (Address a) = 0
second_word (Span low high) = high

-- a query is kept in these words
abbrev pub AreWords : ℕ → ℕ → Type 0
AreWords first second = 0 < second → first < second

-- and it is this one
abbrev pub of_words : ℕ → ℕ → QueryKind
of_words first second = if nat_eq second 0 then Address first else Span first second

-- a query as its words, and back

abbrev pub words_of : QueryKind → Inside
words_of query = record { first = first_word query; second = second_word query }

pub words_back : (first second : ℕ) → words_of (of_words first second) ≡ record { first = first; second = second }
words_back first zero = refl
words_back first (suc second) =
    ap (λ (none : Bool). words_of (if none then Address first else Span first (suc second))) (eqb-suc-zero second)
