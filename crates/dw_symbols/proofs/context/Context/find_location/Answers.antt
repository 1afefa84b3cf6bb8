use Rattle.std.proofs.Common.{arith}
use Rattle.dw_symbols.proofs.AnswerLemmas.{location-none, location-told}
use Rattle.dw_symbols.proofs.context.Context.find_location.Goals as goal

pub returns-in_default-clause-answer : goal.returns-in_default-clause-answer
returns-in_default-clause-answer c =
    grind (arith, location-none)

pub returns-clause-answer : goal.returns-clause-answer
returns-clause-answer c =
    grind (arith, location-told)
