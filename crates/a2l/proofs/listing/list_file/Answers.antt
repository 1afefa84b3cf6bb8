use Rattle.std.proofs.lemmas.Result.{err_from_is_err_and}
use Rattle.dw_model.specs.Output.{listing}
use Rattle.a2l_lines.proofs.WriteLemmas.{Writes-start}
use Rattle.a2l.proofs.listing.list_file.Goals as goal

pub returns-in_err-elf-clause-beginning : goal.returns-in_err-elf-clause-beginning
returns-in_err-elf-clause-beginning g c =
    let p = err_from_is_err_and c.from_residual.result c.from_residual.ensures.1 in
    let lines = listing c.args.file.now in
    rw p.1 (lines, Writes-start (g.W.Sink.told c.args.writer.now) lines)

pub returns-in_err-units-clause-beginning : goal.returns-in_err-units-clause-beginning
returns-in_err-units-clause-beginning g c =
    let p = err_from_is_err_and c.from_residual-in_err-units.result c.from_residual-in_err-units.ensures.1 in
    let lines = listing c.args.file.now in
    rw p.1 (lines, Writes-start (g.W.Sink.told c.args.writer.now) lines)
