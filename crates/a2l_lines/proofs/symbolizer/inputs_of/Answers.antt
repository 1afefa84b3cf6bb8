use Rattle.std.proofs.Common.{map, rules}
use Rattle.a2l_lines.specs.Input.{asked_by, word_shown}
use Rattle.a2l_lines.proofs.SymbolizeLemmas.{asks-words}
use Rattle.a2l_lines.proofs.symbolizer.inputs_of.Goals as goal

pub returns-then-not-is_empty-clause-asked : goal.returns-then-not-is_empty-clause-asked
returns-then-not-is_empty-clause-asked g c =
    asks-words word_shown c.args.words.now (g.R.Source.left c.args.reader.now) (map asked_by c.in_ok-inputs.inputs.items) (search rules) c.in_ok-inputs.ensures
