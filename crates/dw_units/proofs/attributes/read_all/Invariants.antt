use Rattle.std.proofs.Common.{length}
use Rattle.dw_model.specs.Entry.{attributes_at}
use Rattle.dw_bytes.specs.Width.{size_of}
use Rattle.dw_units.proofs.EntryLemmas.{SoFar}
use Rattle.dw_units.proofs.attributes.read_all.Given as goal

abbrev pub invariant-loop-spec : goal.invariant-loop-spec
invariant-loop-spec l =
    SoFar (size_of l.fn.width) l.attributes.items l.left l.cursor (attributes_at (size_of l.fn.width) l.specs l.fn.cursor)

abbrev pub decreases-loop-spec : goal.decreases-loop-spec
decreases-loop-spec l = length l.left
