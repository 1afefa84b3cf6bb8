-- What a page of reports on texts says.
use Rattle.std.specs.Prelude.{◌≡◌, ℕ, List, [], ◌∷◌, ◌++◌, codes}

-- the report on a text was added: the text, a colon, steps in some words, and at its end the lines
abbrev pub AddsReport : (word lines before after : List ℕ) → Type 0
AddsReport word lines before after =
    (steps : List ℕ) × (after ≡ (((before ++ word) ++ codes ":\n") ++ steps) ++ lines)

-- the reports on texts with these lines were added, each behind the one before, and nothing else
abbrev pub AddsReports : (words lines : List (List ℕ)) (before after : List ℕ) → Type 0
AddsReports [] lines before after = after ≡ before
AddsReports (word ∷ words) [] before after = after ≡ before
AddsReports (word ∷ words) (line ∷ lines) before after =
    (between : List ℕ) × AddsReport word line before between × AddsReports words lines between after
