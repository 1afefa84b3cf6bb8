use Rattle.std.proofs.Common.{◌≡◌, ◌<◌, ◌-◌}
use Rattle.dw_model.specs.Steady.{last_address}
use Rattle.dw_line.proofs.WalkLemmas.{HaveRow}
use Rattle.dw_line.proofs.lines.Lines.steady.Given as goal

abbrev pub invariant-loop-stretch : goal.invariant-loop-stretch
invariant-loop-stretch l = record {
  table : l.walk.table ≡ l.self;
  high : l.walk.high ≡ last_address;
  above : l.a < l.walk.at;
  have : HaveRow l.self.rows l.a l.walk.at l.first.row;
}

abbrev pub decreases-loop-stretch : goal.decreases-loop-stretch
decreases-loop-stretch l = l.walk.high - l.walk.at
