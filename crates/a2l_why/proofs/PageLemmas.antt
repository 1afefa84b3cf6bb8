-- The page of reports on texts, one report after the other.
use Rattle.std.proofs.Common.{◌≡◌, ◌<◌, ◌+◌, ℕ, zero, suc, List, [], ◌∷◌, length, map, drop, Bor, Some, None, refl, sym, ◌∙◌, ap, arith}
use Rattle.std.proofs.Math.ListN.{drop_of_length-le}
use Rattle.std.specs.Slice.{IsItemAt}
use Rattle.std.specs.Prelude.{slice_index_or}
use Rattle.a2l_lines.specs.Input.{word_shown}
use Rattle.a2l_why.specs.Page.{AddsReport, AddsReports}
use Rattle.a2l_why.specs.Told.{lines_told}
use Rattle.a2l_why.specs.declared.told.Told.{Told}

drop-suc : {X : Type 0} (xs : List X) (k : ℕ) (other : X) → k < length xs → drop k xs ≡ slice_index_or xs k other ∷ drop (suc k) xs
drop-suc [] k other within = absurd (omega (arith, within))
drop-suc (x ∷ xs) zero other within = refl
drop-suc (x ∷ xs) (suc k) other within = drop-suc xs k other (omega (arith, within))

-- a list from an element on
pub from : {X : Type 0} (xs : List X) (i : ℕ) (x : Bor X) → IsItemAt xs i (Some x) → drop i xs ≡ x.now ∷ drop (i + 1) xs
from xs i x at =
    let next : suc i ≡ i + 1 = omega arith in
    drop-suc xs i x.now (at.3.0) ∙ ap (λ y. y ∷ drop (suc i) xs) (sym at.1) ∙ ap (λ (n : ℕ). x.now ∷ drop n xs) next

-- a list from its end on
pub past : {X : Type 0} (xs : List X) (i : ℕ) → IsItemAt xs i None → drop i xs ≡ []
past xs i at = drop_of_length-le xs at.3

-- where no text is left, nothing is added
pub no_words : (words : List (Bor (List ℕ))) (i : ℕ) (lines : List (List ℕ)) (done : List ℕ) → IsItemAt words i None → AddsReports (map word_shown (drop i words)) lines done done
no_words words i lines done none = rw (past words i none) refl

none_left : (words : List (List ℕ)) (done : List ℕ) → AddsReports words [] done done
none_left [] done = refl
none_left (word ∷ words) done = refl

-- where no report is left
pub no_reports : (words : List (List ℕ)) (tolds : List Told) (i : ℕ) (done : List ℕ) → IsItemAt tolds i None → AddsReports words (map lines_told (drop i tolds)) done done
no_reports words tolds i done none = rw (past tolds i none) (none_left words done)

-- the report of an index, and then the later ones
pub goes_on : (words : List (Bor (List ℕ))) (tolds : List Told) (i : ℕ) (word : Bor (Bor (List ℕ))) (told : Bor Told) (before between after : List ℕ)
    → IsItemAt words i (Some word) → IsItemAt tolds i (Some told)
    → AddsReport (word_shown word.now) (lines_told told.now) before between → AddsReports (map word_shown (drop (i + 1) words)) (map lines_told (drop (i + 1) tolds)) between after
    → AddsReports (map word_shown (drop i words)) (map lines_told (drop i tolds)) before after
goes_on words tolds i word told before between after at at_told added later = rw (from words i word at, from tolds i told at_told) (between, added, later)
