use Rattle.std.proofs.Common.{List, length}
use Rattle.dw_model.specs.Entry.{attributes_at}
use Rattle.dw_bytes.specs.Width.{size_of}
use Rattle.dw_units.specs.declared.attributes.Attribute.{Attribute}
use Rattle.dw_units.proofs.EntryLemmas.{SoFar}
use Rattle.dw_units.proofs.values.pass_attributes.Given as goal

-- the attributes that were passed over are those of the entry so far
abbrev pub invariant-loop-spec : goal.invariant-loop-spec
invariant-loop-spec l =
    (passed : List Attribute) × SoFar (size_of l.fn.width) passed l.left l.cursor (attributes_at (size_of l.fn.width) l.specs l.fn.cursor)

abbrev pub decreases-loop-spec : goal.decreases-loop-spec
decreases-loop-spec l = length l.left
