use Rattle.dw_model.proofs.PieceLemmas.{none_more, one_more}
use Rattle.dw_model.proofs.laws.law_of_more_pieces.Goals as goal

pub returns-clause-none : goal.returns-clause-none
returns-clause-none c = none_more

pub returns-clause-one : goal.returns-clause-one
returns-clause-one c = one_more
