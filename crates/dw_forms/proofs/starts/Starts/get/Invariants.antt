use Rattle.dw_forms.proofs.StartsLemmas.{Sought}
use Rattle.dw_forms.proofs.starts.Starts.get.Given as goal

abbrev pub invariant-loop-index : goal.invariant-loop-index
invariant-loop-index l = Sought l.self l.offset l.place

abbrev pub decreases-loop-index : goal.decreases-loop-index
decreases-loop-index l = l.place
