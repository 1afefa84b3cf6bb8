use Rattle.std.proofs.Common.{◌≡◌}
use Rattle.dw_model.specs.Abbrev.{declared}
use Rattle.dw_forms.proofs.StoreLemmas.{table_in, Within}
use Rattle.dw_forms.proofs.store.find_in.Given as goal

abbrev pub invariant-loop-start : goal.invariant-loop-start
invariant-loop-start l = Within l.runs l.start × (declared (table_in l.runs l.start) l.code ≡ declared (table_in l.runs l.fn.start) l.code)

abbrev pub decreases-loop-start : goal.decreases-loop-start
decreases-loop-start l = l.start.run
