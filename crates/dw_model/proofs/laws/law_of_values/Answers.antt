use Rattle.std.proofs.Common.{refl}
use Rattle.dw_model.proofs.ValueLemmas.{value-spans, spells-ok, unknown-fault, unknown_since, wide-fault, wide_since, no_other, alone}
use Rattle.dw_model.proofs.laws.law_of_values.Goals as goal

pub returns-clause-spelled : goal.returns-clause-spelled
returns-clause-spelled c size form constant p q v =
    (value-spans size form constant p q v, λ s. spells-ok size form constant s.0 v s.2 p q s.1)

pub returns-clause-unknown : goal.returns-clause-unknown
returns-clause-unknown c size form constant p =
    (unknown_since size form constant p, λ u. unknown-fault size form constant p.left u p refl)

pub returns-clause-wide : goal.returns-clause-wide
returns-clause-wide c size form constant p =
    (wide_since size form constant p, λ w. wide-fault size form constant p.left w p refl)

pub returns-clause-no_other : goal.returns-clause-no_other
returns-clause-no_other c = no_other

pub returns-clause-alone : goal.returns-clause-alone
returns-clause-alone c = alone
