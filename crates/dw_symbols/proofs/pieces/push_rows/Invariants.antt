use Rattle.std.proofs.Common.{◌≡◌, ◌≤◌, ◌-◌, map}
use Rattle.dw_line.specs.Lines.{lines_shown}
use Rattle.dw_symbols.specs.Answer.{piece_shown}
use Rattle.dw_symbols.specs.Paths.{ArePathsOf}
use Rattle.dw_symbols.proofs.SpanLemmas.{AddedTo}
use Rattle.dw_symbols.proofs.pieces.push_rows.Given as goal

abbrev pub invariant-loop-stretch : goal.invariant-loop-stretch
invariant-loop-stretch l = record {
  table : l.walk.table ≡ l.lines;
  high : l.walk.high ≡ l.high;
  above : l.low ≤ l.walk.at;
  within : l.walk.at ≤ l.high;
  paths : ArePathsOf (lines_shown l.lines) l.paths.items;
  added : AddedTo (lines_shown l.lines) l.low l.high l.walk.at (map piece_shown l.fn.pieces.items) (map piece_shown l.pieces.items);
}

abbrev pub decreases-loop-stretch : goal.decreases-loop-stretch
decreases-loop-stretch l = l.walk.high - l.walk.at
