use Rattle.std.proofs.Common.{◌<◌, ◌^◌, length}
use Rattle.dw_bytes.specs.Width.{size_of}
use Rattle.dw_forms.specs.Size.{values_size}
use Rattle.dw_forms.proofs.SizeLemmas.{Counts}
use Rattle.dw_forms.proofs.pairs.Specs.size.Given as goal

-- the sizes so far fit, and with those after they are all
abbrev pub invariant-loop-spec : goal.invariant-loop-spec
invariant-loop-spec l = (l.size < 2 ^ 64) × Counts (size_of l.fn.width) l.size l.left (values_size (size_of l.fn.width) l.self)

abbrev pub decreases-loop-spec : goal.decreases-loop-spec
decreases-loop-spec l = length l.left
