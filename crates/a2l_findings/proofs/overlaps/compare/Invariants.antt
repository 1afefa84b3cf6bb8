use Rattle.std.proofs.Common.{◌-◌, ◌^◌}
use Rattle.a2l_findings.proofs.overlaps.compare.Given as goal

abbrev pub decreases-loop-at : goal.decreases-loop-at
decreases-loop-at l = 2 ^ 64 - l.at
