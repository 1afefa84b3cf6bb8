use Rattle.dw_model.specs.Leb.{signed_groups, fits_i64, sleb_at}
use Rattle.dw_model.proofs.LebLemmas.{ends_since, fitting-ends}
use Rattle.dw_model.proofs.LebReading.{sleb-spans, sleb-ok, sleb-wide, sleb-wide-only, sleb-faults}
use Rattle.dw_model.proofs.laws.law_of_sleb.Goals as goal

pub returns-clause-spelled : goal.returns-clause-spelled
returns-clause-spelled c p q z = (sleb-spans p q z, λ s. sleb-ok p q z s.0 s.1 s.2.0 s.2.1)

pub returns-clause-wide : goal.returns-clause-wide
returns-clause-wide c p = (sleb-wide-only p, sleb-wide p)

pub returns-clause-ends : goal.returns-clause-ends
unfolding sleb_at
returns-clause-ends c p = (ends_since signed_groups fits_i64 p, fitting-ends signed_groups fits_i64 p)

pub returns-clause-no_other : goal.returns-clause-no_other
returns-clause-no_other c = sleb-faults
