use Rattle.dw_line.specs.declared.entries.Format.{Format}
use Rattle.dw_line.proofs.EntryLemmas.{one-more, one-less}
use Rattle.dw_line.proofs.entries.formats_with_bytes.Goals as goal
use Rattle.dw_line.proofs.entries.formats_with_bytes.Goals.{then-format-ne-DW_FORM_flag_present+in_ok-push, else-format-ne-DW_FORM_flag_present}

-- what is in the place of a format after the last one
abbrev none : Format
none = record { content = 0; form = 0 }

pub loop-format-preserved : goal.loop-format-preserved
loop-format-preserved c = λ size p.
    elim c.if-format-ne-DW_FORM_flag_present.branch [
      | then-format-ne-DW_FORM_flag_present+in_ok-push w ↦ rw (w.kept-is, w.in_ok-push.ensures.ok, one-more size c.loop-format.kept.items c.args.formats.now c.loop-format.format-index none c.loop-format-test.true) (c.loop-format.invariant size p)
      | else-format-ne-DW_FORM_flag_present w ↦ rw w.kept-is (one-less size c.loop-format.kept.items c.args.formats.now c.args.formats.now c.loop-format.format-index none p c.loop-format-test.true w.if-format-ne-DW_FORM_flag_present.false (c.loop-format.invariant size p))
    ]
