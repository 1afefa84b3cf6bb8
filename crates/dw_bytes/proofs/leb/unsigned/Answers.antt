use Rattle.std.proofs.Common.{arith}
use Rattle.dw_bytes.proofs.GroupLemmas.{unsigned_large}
use Rattle.dw_bytes.proofs.leb.unsigned.Goals as goal

pub returns-then-value : goal.returns-then-value
returns-then-value c =
    unsigned_large c.args.bytes.now c.loop-i.i c.loop-i.value c.loop-i-test.true c.loop-i.invariant (omega (arith, c.if-value.true))
