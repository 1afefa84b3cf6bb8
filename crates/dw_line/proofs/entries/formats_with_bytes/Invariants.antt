use Rattle.std.proofs.Common.{◌≡◌, ◌++◌, ℕ, drop, map}
use Rattle.dw_model.specs.Reading.{Place}
use Rattle.dw_model.specs.LineHeader.{contents_at}
use Rattle.dw_line.specs.Header.{format_shown, place_behind}
use Rattle.dw_line.proofs.entries.formats_with_bytes.Given as goal

abbrev pub invariant-loop-format : goal.invariant-loop-format
invariant-loop-format l =
    (size : ℕ) (p : Place) → place_behind (contents_at size (map format_shown (l.kept.items ++ drop l.format-index l.formats)) p) ≡ place_behind (contents_at size (map format_shown l.fn.formats) p)
