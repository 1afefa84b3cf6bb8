use Rattle.dw_model.proofs.laws.law_of_one_spelling.Goals as goal
use Rattle.dw_model.proofs.LebLemmas.{alone}

pub returns : goal.returns
returns c = record { alone = alone }
