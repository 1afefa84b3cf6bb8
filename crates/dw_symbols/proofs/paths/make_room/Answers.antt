use Rattle.std.proofs.Common.{arith}
use Rattle.dw_symbols.proofs.PathLemmas.{one-place}
use Rattle.dw_symbols.proofs.paths.make_room.Goals as goal

pub loop-paths-preserved : goal.loop-paths-preserved
loop-paths-preserved c = λ table are.
    rw (c.in_ok-push.ensures.items) (one-place table c.loop-paths.paths.items (c.loop-paths.invariant table are) (omega (arith, c.requires, c.loop-paths-test.true, c.len.ensures)))

pub returns-in_err-push-clause-known : goal.returns-in_err-push-clause-known
returns-in_err-push-clause-known c = λ table are.
    rw (c.in_err-push.ensures.items) (c.loop-paths.invariant table are)
