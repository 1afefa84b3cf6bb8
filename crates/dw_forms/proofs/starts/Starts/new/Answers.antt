use Rattle.dw_forms.proofs.StartsLemmas.{linked-none}
use Rattle.dw_forms.proofs.starts.Starts.new.Goals as goal

pub invariant_of-result : goal.invariant_of-result
invariant_of-result c = rw (c.new.ensures.items, c.new-2.ensures.items, c.new-3.ensures.items) linked-none
