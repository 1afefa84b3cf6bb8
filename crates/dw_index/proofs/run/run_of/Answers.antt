use Rattle.dw_index.proofs.RunLemmas.{run_of_none}
use Rattle.dw_index.proofs.run.run_of.Goals as goal

pub loop-range-init : goal.loop-range-init
loop-range-init c = rw (c.in_ok-with_capacity.ensures.items) run_of_none
