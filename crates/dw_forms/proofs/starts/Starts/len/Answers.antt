use Rattle.std.proofs.Common.{arith}
use Rattle.dw_forms.proofs.StartsLemmas.{most}
use Rattle.dw_forms.proofs.starts.Starts.len.Goals as goal

pub returns-clause-bound : goal.returns-clause-bound
returns-clause-bound c = rw (← c.self.view_is) (λ end below.
    let fits = most c.self.inside.list.items end c.self.invariant.distinct below in
    omega (arith, fits, c.len.ensures))
