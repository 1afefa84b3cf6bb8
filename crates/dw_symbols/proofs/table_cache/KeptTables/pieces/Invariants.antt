use Rattle.std.proofs.Common.{◌≡◌, ◌≤◌, ◌+◌, ◌-◌, map}
use Rattle.dw_model.specs.Section.{sections}
use Rattle.dw_model.specs.Pieces.{ArePieces, place}
use Rattle.dw_symbols.specs.Answer.{piece_shown}
use Rattle.dw_symbols.specs.Kept.{AreTables}
use Rattle.dw_symbols.proofs.table_cache.KeptTables.pieces.Given as goal

abbrev pub invariant-loop-at : goal.invariant-loop-at
invariant-loop-at l = record {
  file : l.units ≡ l.image;
  kept : AreTables (sections l.image).line l.self;
  from : l.low ≤ l.at;
  within : l.at ≤ l.low + (l.high - l.low);
  are : ArePieces (place (sections l.image)) l.low l.at (map piece_shown l.pieces.items);
}

abbrev pub decreases-loop-at : goal.decreases-loop-at
decreases-loop-at l = l.high - l.at
