-- What a command line asks for.
use Rattle.std.specs.Prelude.{◌≡◌, ◌≤◌, ℕ, List, Option, Some, None, Result, Ok, MatchResult}
use Rattle.std.specs.Str.Parse.{IsNumeral, digits_value, without_leading_plus}
use Rattle.a2l.specs.declared.command.ParseFault.{ParseFault}
use Rattle.a2l.specs.declared.command.ParseFault.TheVariants.{Refused, Memory}

-- the number of each reason
abbrev pub number_of_parse : ParseFault → ℕ
number_of_parse Refused = 1
number_of_parse Memory = 2

-- a number of threads
abbrev pub IsCount : ℕ → Type 0
IsCount n = (1 ≤ n) × (n ≤ 64)

-- the number that the text writes
abbrev pub written_count : List ℕ → ℕ
written_count text = digits_value 10 (without_leading_plus text)

-- the text writes a number of threads in decimal digits, before which a plus may be
abbrev pub WritesCount : List ℕ → Type 0
WritesCount text = IsNumeral 10 (without_leading_plus text) × IsCount (written_count text)

-- How many threads an option asks for: the number that its text writes, or the default where the
-- option isn't there; any other text is refused.
abbrev pub AsksFor : Option (List ℕ) → ℕ → Result ℕ ParseFault → Type 0
AsksFor None default found = found ≡ Ok default
AsksFor (Some text) default found =
    MatchResult found (λ n. WritesCount text × (n ≡ written_count text))
    (λ fault. (fault ≡ Refused) × ¬ (WritesCount text))
