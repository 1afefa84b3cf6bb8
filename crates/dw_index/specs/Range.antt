-- Ranges as the definitions have them.
use Rattle.std.specs.Prelude.{ℕ}
use Rattle.dw_model.specs.Ranges as model
use Rattle.dw_index.specs.declared.range.Range.{Range}

abbrev pub range_shown : Range → model.Range
range_shown range = record { begin = range.begin; end = range.end }

-- a range and its owner
abbrev pub pair_shown : Range × ℕ → model.Range × ℕ
pair_shown pair = (range_shown pair.0, pair.1)
