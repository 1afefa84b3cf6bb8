use Rattle.std.proofs.Common.{◌≡◌, ◌-◌, length, drop}
use Rattle.dw_model.specs.Leb.{groups}
use Rattle.dw_bytes.proofs.leb.unsigned.Given as goal

abbrev pub invariant-loop-i : goal.invariant-loop-i
invariant-loop-i l = l.value ≡ groups (drop (length l.bytes - l.i) l.bytes)
