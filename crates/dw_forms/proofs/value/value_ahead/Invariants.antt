use Rattle.std.proofs.Common.{◌≡◌, length}
use Rattle.dw_bytes.specs.Width.{size_of}
use Rattle.dw_model.specs.Form.{value_at}
use Rattle.dw_forms.proofs.value.value_ahead.Given as goal

abbrev pub invariant-loop-named : goal.invariant-loop-named
invariant-loop-named l =
    value_at (size_of l.fn.width) l.named l.constant l.cursor ≡ value_at (size_of l.fn.width) l.fn.form l.fn.implicit l.fn.cursor

abbrev pub decreases-loop-named : goal.decreases-loop-named
decreases-loop-named l = length l.cursor.left
