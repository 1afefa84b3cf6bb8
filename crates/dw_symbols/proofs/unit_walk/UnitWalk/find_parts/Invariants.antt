use Rattle.std.proofs.Common.{◌≡◌, ◌≤◌, ◌-◌}
use Rattle.dw_symbols.specs.Parts.{AreParts}
use Rattle.dw_symbols.proofs.unit_walk.UnitWalk.find_parts.Given as goal

abbrev pub invariant-loop-at : goal.invariant-loop-at
invariant-loop-at l = record {
  file : l.self ≡ l.fn.self;
  from : l.span.low ≤ l.at;
  within : l.at ≤ l.span.high;
  parts : AreParts l.fn.self l.span.low l.at l.parts.items;
}

abbrev pub decreases-loop-at : goal.decreases-loop-at
decreases-loop-at l = l.span.high - l.at
