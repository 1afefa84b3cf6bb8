use Rattle.std.proofs.Common.{arith}
use Rattle.a2l_lines.proofs.WriteLemmas.{Writes-more}
use Rattle.a2l_lines.proofs.output.write_all.Goals as goal

pub loop-left-preserved : goal.loop-left-preserved
loop-left-preserved g c =
    let told = g.W.Sink.told in
    record {
      writes = rw c.split_at.ensures.back (Writes-more (told c.args.writer.now) (told c.loop-left.writer) (told c.write.new.self) c.args.text.now c.loop-left.left.now c.in_ok-count.count c.loop-left.invariant.writes c.in_ok-count.ensures.told);
      counted = omega (arith, c.loop-left.invariant.counted, c.write.ensures.failures);
    }
