use Rattle.std.proofs.Common.{◌+◌, ◌++◌, [], drop, append_assoc, arith}
use Rattle.a2l_lines.specs.Pieces.{pieces_of, picked_text}
use Rattle.a2l_lines.proofs.WriteLemmas.{Writes-put, Writes-begins, picked-next, picked-end, on_err, on_err-map}
use Rattle.a2l_lines.proofs.blocks.write_picked.Goals as goal

pub returns-in_err-put-clause-beginning : goal.returns-in_err-put-clause-beginning
returns-in_err-put-clause-beginning g c =
    let told = g.W.Sink.told in
    let pieces = pieces_of c.args.replies.now in
    let block = c.loop-i.block.items in
    let piece = c.piece.result.now in
    let rest = picked_text pieces (drop (c.loop-i.i + 1) c.args.picks.now) in
    let next = picked-next pieces c.args.picks.now piece c.loop-i.i c.loop-i-test.true c.piece.ensures in
    let so_far = rw (next, ← append_assoc block piece rest) at c.loop-i.invariant.writes in
    on_err c.from_residual.result
    (Writes-begins (told c.args.writer.now) (told c.loop-i.writer) (told c.put.new.writer) (picked_text pieces c.args.picks.now) (block ++ piece) rest so_far c.in_err-put.ensures.beginning)

pub loop-i-preserved : goal.loop-i-preserved
loop-i-preserved g c =
    let told = g.W.Sink.told in
    let pieces = pieces_of c.args.replies.now in
    let piece = c.piece.result.now in
    let next = picked-next pieces c.args.picks.now piece c.loop-i.i c.loop-i-test.true c.piece.ensures in
    let so_far = rw next at c.loop-i.invariant.writes in
    record {
      writes = Writes-put (told c.args.writer.now) (told c.loop-i.writer) (told c.put.new.writer) (picked_text pieces c.args.picks.now) c.loop-i.block.items c.put.new.block.items piece _ so_far c.in_ok-put.ensures.put;
      counted = omega (arith, c.loop-i.invariant.counted, c.put.ensures.counted);
    }

pub returns-clause-beginning : goal.returns-clause-beginning
returns-clause-beginning g c =
    let told = g.W.Sink.told in
    let pieces = pieces_of c.args.replies.now in
    let so_far = rw (picked-end pieces c.args.picks.now c.loop-i.i c.loop-i-test.false) at c.loop-i.invariant.writes in
    on_err-map c.flush.result
    (Writes-begins (told c.args.writer.now) (told c.loop-i.writer) (told c.flush.new.writer) (picked_text pieces c.args.picks.now) c.loop-i.block.items [] so_far)
    c.flush.ensures.beginning
