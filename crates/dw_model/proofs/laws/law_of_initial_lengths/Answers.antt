use Rattle.dw_model.proofs.InitialLemmas.{initial-ok, initial-spans}
use Rattle.dw_model.proofs.laws.law_of_initial_lengths.Goals as goal

pub returns : goal.returns
returns c = record { spelled = λ width n p q. (initial-spans width n p q, λ s. initial-ok width n p q s.0 s.1 s.2) }
