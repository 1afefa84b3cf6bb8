use Rattle.std.proofs.Common.{◌≤◌, ◌++◌, drop}
use Rattle.a2l_lines.specs.Ends.{Writes}
use Rattle.a2l_lines.specs.Pieces.{pieces_of, picked_text}
use Rattle.a2l_lines.proofs.blocks.write_picked.Given as goal

abbrev pub invariant-loop-i : goal.invariant-loop-i
invariant-loop-i g l =
    let told = g.W.Sink.told in
    let failures = g.W.Sink.failures in
    record {
      writes : Writes (told l.fn.writer) (told l.writer) (picked_text (pieces_of l.replies) l.picks) (l.block.items ++ picked_text (pieces_of l.replies) (drop l.i l.picks));
      counted : failures l.fn.writer ≤ failures l.writer;
    }
