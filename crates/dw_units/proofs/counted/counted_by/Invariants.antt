use Rattle.std.proofs.Common.{◌≤◌, length, take}
use Rattle.dw_model.specs.Entry.{attributes_at}
use Rattle.dw_bytes.specs.Width.{size_of}
use Rattle.dw_forms.specs.declared.names.TheConstants.{NAMES}
use Rattle.dw_units.specs.View.{attributes_in}
use Rattle.dw_units.proofs.CountedLemmas.{AreFilled}
use Rattle.dw_units.proofs.counted.counted_by.Given as goal

-- of the names so far what counts is kept, and at most one attribute of each
abbrev pub invariant-loop-name : goal.invariant-loop-name
invariant-loop-name l =
    AreFilled (attributes_in (attributes_at (size_of l.width) l.layout l.values)) (take l.name-index NAMES) l.kept.items × (length l.kept.items ≤ l.name-index)
