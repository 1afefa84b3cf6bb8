use Rattle.std.proofs.lemmas.Result.{err_from_is_err_and}
use Rattle.dw_model.specs.Unit.{units}
use Rattle.dw_model.specs.Output.{unit_lines}
use Rattle.a2l_lines.proofs.WriteLemmas.{Writes-start}
use Rattle.a2l_lines.proofs.listing.list_units.Goals as goal

pub returns-in_err-text-clause-beginning : goal.returns-in_err-text-clause-beginning
returns-in_err-text-clause-beginning g c =
    let p = err_from_is_err_and c.from_residual.result c.from_residual.ensures.1 in
    let lines = unit_lines (units c.args.units.now.info) in
    rw p.1 (lines, Writes-start (g.W.Sink.told c.args.writer.now) lines)
