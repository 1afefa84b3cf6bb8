use Rattle.std.proofs.Common.{◌≡◌, ◌-◌, ◌<◌, ◌^◌, length, drop}
use Rattle.dw_bytes.specs.Leb.{complements}
use Rattle.dw_bytes.proofs.leb.below_zero.Given as goal

abbrev pub invariant-loop-i : goal.invariant-loop-i
invariant-loop-i l = (l.value ≡ complements (drop (length l.bytes - l.i) l.bytes)) × (l.value < 2 ^ 63)
