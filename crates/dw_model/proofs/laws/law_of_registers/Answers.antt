use Rattle.std.proofs.Common.{[], sym}
use Rattle.dw_model.proofs.RegisterLemmas.{run-after}
use Rattle.dw_model.proofs.laws.law_of_registers.Goals as goal

pub returns : goal.returns
returns c = record { matrix = λ header list. sym (run-after header list []) }
