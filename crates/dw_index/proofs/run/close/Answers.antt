use Rattle.dw_index.proofs.RunLemmas.{closes}
use Rattle.dw_index.proofs.run.close.Goals as goal

pub returns-clause-closed : goal.returns-clause-closed
returns-clause-closed c pairs r =
    rw (c.in_ok-push.ensures.items) (closes pairs c.args.run.now.segments.items c.args.run.now.end c.in-Some.field-0 (rw (c.in-Some.is) at r))
