use Rattle.std.proofs.Common.{◌≤◌, length}
use Rattle.a2l_lines.specs.Ends.{Writes}
use Rattle.a2l_lines.proofs.output.write_all.Given as goal

abbrev pub invariant-loop-left : goal.invariant-loop-left
invariant-loop-left g l =
    let told = g.W.Sink.told in
    let failures = g.W.Sink.failures in
    record {
      writes : Writes (told l.fn.writer) (told l.writer) l.fn.text l.left;
      counted : failures l.fn.writer ≤ failures l.writer;
    }

abbrev pub decreases-loop-left : goal.decreases-loop-left
decreases-loop-left g l = length l.left
