use Rattle.std.proofs.Common.{◌≡◌, take}
use Rattle.dw_model.specs.Unit as cut
use Rattle.dw_units.specs.Header.{kind_shown}
use Rattle.a2l_why.specs.Census.{count_of}
use Rattle.a2l_why.proofs.census.count_of.Given as goal

abbrev pub invariant-loop-i : goal.invariant-loop-i
invariant-loop-i l = l.count ≡ count_of (kind_shown l.wanted) (take l.i (cut.units l.units.info))
