use Rattle.std.proofs.Common.{ℕ, ◌≤◌, ◌<◌, drop, map}
use Rattle.dw_model.specs.Section.{sections}
use Rattle.dw_symbols.specs.Answer.{piece_shown}
use Rattle.dw_symbols.specs.Kept.{AreTables}
use Rattle.dw_symbols.specs.Parts.{AreFound, AreParts}
use Rattle.dw_symbols.specs.Span.{AddsUpTo}
use Rattle.dw_symbols.proofs.table_cache.KeptTables.push_parts.Given as goal

abbrev pub invariant-loop-i : goal.invariant-loop-i
invariant-loop-i l = record {
  kept : AreTables (sections l.image).line l.self;
  found : AreFound l.image l.parts l.early;
  from : l.fn.span.low ≤ l.at;
  left : (end : ℕ) × (l.fn.span.low < end) × (end ≤ l.fn.span.high) × AreParts l.image l.at end (drop l.i l.parts);
  adds : AddsUpTo (sections l.image) l.fn.span.low l.at (map piece_shown l.fn.pieces.items) (map piece_shown l.pieces.items);
}
