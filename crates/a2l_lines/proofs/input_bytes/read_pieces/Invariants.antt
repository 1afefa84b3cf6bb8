use Rattle.std.proofs.Common.{◌≤◌, ◌<◌, ◌-◌, ◌^◌, length}
use Rattle.a2l_lines.proofs.ReadLemmas.{Reads}
use Rattle.a2l_lines.proofs.input_bytes.read_pieces.Given as goal

abbrev pub invariant-loop-bytes : goal.invariant-loop-bytes
invariant-loop-bytes g l =
    let left = g.R.Source.left in
    let failures = g.R.Source.failures in
    record {
      reads : Reads (left l.fn.reader) (left l.reader) l.bytes.items;
      counted : failures l.fn.reader ≤ failures l.reader;
      room : 0 < length l.piece;
    }

abbrev pub decreases-loop-bytes : goal.decreases-loop-bytes
decreases-loop-bytes g l = 2 ^ 64 - length l.bytes.items
