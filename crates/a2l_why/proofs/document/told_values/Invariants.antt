use Rattle.std.proofs.Common.{List, [], drop, map}
use Rattle.serde_json.specs.Data.{Data}
use Rattle.serde_json.specs.View.{view}
use Rattle.a2l_lines.specs.Input.{word_shown}
use Rattle.a2l_why.specs.Document.{AddsReportValues}
use Rattle.a2l_why.specs.Told.{lines_told}
use Rattle.a2l_why.proofs.document.told_values.Given as goal

abbrev pub invariant-loop-i : goal.invariant-loop-i
invariant-loop-i l = (after : List Data) → AddsReportValues (map word_shown (drop l.i l.words)) (map lines_told (drop l.i l.tolds)) (map view l.list.items) after
    → AddsReportValues (map word_shown l.words) (map lines_told l.tolds) [] after
