use Rattle.std.proofs.Common.{ℕ, List, [], drop, map}
use Rattle.a2l_lines.specs.Input.{word_shown}
use Rattle.a2l_why.specs.Page.{AddsReports}
use Rattle.a2l_why.specs.Told.{lines_told}
use Rattle.a2l_why.proofs.page.of_words.Given as goal

abbrev pub invariant-loop-i : goal.invariant-loop-i
invariant-loop-i l = (after : List ℕ) → AddsReports (map word_shown (drop l.i l.words)) (map lines_told (drop l.i l.tolds)) (l.text.items) after
    → AddsReports (map word_shown l.words) (map lines_told l.tolds) [] after
