use Rattle.std.proofs.Common.{◌≡◌, ◌∙◌, []}
use Rattle.a2l_lines.proofs.WriteLemmas.{Writes-long, Writes-long-begins, Writes-block-begins, on_ok-map, on_err}
use Rattle.a2l_lines.proofs.blocks.put.Goals as goal

pub returns-in_err-flush-clause-beginning : goal.returns-in_err-flush-clause-beginning
returns-in_err-flush-clause-beginning g c =
    let told = g.W.Sink.told in
    let same = c.add.ensures.full c.if-add.false in
    let begun = rw same at c.in_err-flush.ensures.beginning in
    on_err c.from_residual.result (Writes-block-begins (told c.args.writer.now) (told c.flush.new.writer) c.args.block.now.items c.args.piece.now begun)

pub returns-clause-put : goal.returns-clause-put
returns-clause-put g c =
    let told = g.W.Sink.told in
    let same = c.add.ensures.full c.if-add.false in
    let written = rw same at c.in_ok-flush.ensures.written in
    let none : c.add-2.new.block.items ≡ [] = c.add-2.ensures.full c.if-add-2.false ∙ c.in_ok-flush.ensures.emptied in
    on_ok-map c.write_all.result
    (Writes-long (told c.args.writer.now) (told c.flush.new.writer) (told c.write_all.new.writer) c.args.block.now.items c.args.piece.now c.add-2.new.block.items written none)
    c.write_all.ensures.written

pub returns-clause-beginning : goal.returns-clause-beginning
returns-clause-beginning g c =
    let told = g.W.Sink.told in
    let same = c.add.ensures.full c.if-add.false in
    let written = rw same at c.in_ok-flush.ensures.written in
    on_err c.write_all.result
    (Writes-long-begins (told c.args.writer.now) (told c.flush.new.writer) (told c.write_all.new.writer) c.args.block.now.items c.args.piece.now written c.write_all.ensures.beginning)
