use Rattle.dw_model.specs.Leb.{groups, uleb_at}
use Rattle.dw_model.proofs.LebLemmas.{fits_u64, ends_since, fitting-ends}
use Rattle.dw_model.proofs.LebReading.{uleb-spans, uleb-ok, uleb-wide, uleb-wide-only, uleb-faults}
use Rattle.dw_model.proofs.laws.law_of_uleb.Goals as goal

pub returns-clause-spelled : goal.returns-clause-spelled
returns-clause-spelled c p q n = (uleb-spans p q n, λ s. uleb-ok p q n s.0 s.1 s.2.0 s.2.1)

pub returns-clause-wide : goal.returns-clause-wide
returns-clause-wide c p = (uleb-wide-only p, uleb-wide p)

pub returns-clause-ends : goal.returns-clause-ends
unfolding uleb_at
returns-clause-ends c p = (ends_since groups fits_u64 p, fitting-ends groups fits_u64 p)

pub returns-clause-no_other : goal.returns-clause-no_other
returns-clause-no_other c = uleb-faults
