use Rattle.std.proofs.Common.{◌≡◌, take}
use Rattle.std.specs.Prelude.{string_bytes}
use Rattle.dw_model.specs.Unit.{units}
use Rattle.dw_model.specs.Output.{unit_lines}
use Rattle.a2l_lines.proofs.listing.listing.Given as goal

abbrev pub invariant-loop-i : goal.invariant-loop-i
invariant-loop-i l = string_bytes l.text ≡ unit_lines (take l.i (units l.units.info))
