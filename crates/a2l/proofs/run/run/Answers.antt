use Rattle.std.proofs.Common.{◌≡◌, Ok, map, rules}
use Rattle.std.proofs.lemmas.Result.{IfOk-at_ok}
use Rattle.a2l_lines.specs.declared.symbolizer.Status.{Status}
use Rattle.a2l_lines.specs.declared.symbolizer.Status.TheVariants.{Clean, Faults}
use Rattle.a2l.specs.Serving.{Serves, number_of}
use Rattle.a2l.proofs.run.run.Goals as goal

pub returns-in-Ok-Clean-clause-served : goal.returns-in-Ok-Clean-clause-served
returns-in-Ok-Clean-clause-served g c = λ some _.
    let Done : Status → Type 0 = λ status. Serves (g.L.Load.known c.args.loader.now) (map g.S.AsStr.text c.args.words.now) (g.R.Source.left c.args.reader.now) (g.W.Sink.told c.args.writer.now) (g.W.Sink.told c.answer.new.writer) (number_of status) in
    let is : c.answer.result ≡ Ok Clean = search rules in
    IfOk-at_ok Done is (c.answer.ensures.served some)

pub returns-in-Ok-Faults-clause-served : goal.returns-in-Ok-Faults-clause-served
returns-in-Ok-Faults-clause-served g c = λ some _.
    let Done : Status → Type 0 = λ status. Serves (g.L.Load.known c.args.loader.now) (map g.S.AsStr.text c.args.words.now) (g.R.Source.left c.args.reader.now) (g.W.Sink.told c.args.writer.now) (g.W.Sink.told c.answer.new.writer) (number_of status) in
    let is : c.answer.result ≡ Ok Faults = search rules in
    IfOk-at_ok Done is (c.answer.ensures.served some)
