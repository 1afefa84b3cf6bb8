use Rattle.std.proofs.Common.{map}
use Rattle.a2l_lines.specs.Input.{word_shown}
use Rattle.a2l_lines.specs.Text.{options_shown}
use Rattle.a2l_lines.proofs.SymbolizeLemmas.{begins}
use Rattle.a2l_lines.proofs.WriteLemmas.{on_err}
use Rattle.a2l.proofs.answers.symbolize_file.Goals as goal

pub returns-in_err-image-clause-beginning : goal.returns-in_err-image-clause-beginning
returns-in_err-image-clause-beginning g c =
    on_err c.from_residual.result (begins (options_shown c.args.options.now) c.args.file.now (map word_shown c.args.options.now.words.items) (g.R.Source.left c.args.reader.now) (g.W.Sink.told c.args.writer.now))
