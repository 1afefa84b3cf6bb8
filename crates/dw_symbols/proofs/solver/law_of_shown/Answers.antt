use Rattle.dw_symbols.proofs.ToldLemmas.{same_answer, same_answers}
use Rattle.dw_symbols.proofs.solver.law_of_shown.Goals as goal

pub returns-clause-one : goal.returns-clause-one
returns-clause-one c file a answer same = same_answer file a answer same

pub returns-clause-all : goal.returns-clause-all
returns-clause-all c file addresses answers same = same_answers file addresses answers same
