use Rattle.std.proofs.Common.{map, get_or, None, ap, refl}
use Rattle.std.proofs.lemmas.Result.{err_from_is_err_and}
use Rattle.dw_model.specs.Results.{or_fault}
use Rattle.dw_model.specs.Form.{value_at}
use Rattle.dw_model.specs.Faults.{bad}
use Rattle.dw_model.specs.LineHeader.{contents_at}
use Rattle.dw_bytes.specs.Width.{size_of}
use Rattle.dw_forms.specs.Value.{value_shown}
use Rattle.dw_line.specs.declared.entries.Format.{Format}
use Rattle.dw_line.specs.Fault.{line_fault}
use Rattle.dw_line.specs.Header.{format_shown, place_behind}
use Rattle.dw_line.proofs.CountLemmas.{still_tells}
use Rattle.dw_line.proofs.EntryLemmas.{passes_more, passes_bad, passes_all}
use Rattle.dw_line.proofs.entries.pass_contents.Goals as goal

-- what is in the place of a format after the last one
abbrev none : Format
none = record { content = 0; form = 0 }

pub returns-in_err-value : goal.returns-in_err-value
returns-in_err-value c =
    let size = size_of c.args.width in
    let p = err_from_is_err_and c.from_residual.result c.from_residual.ensures.1 in
    let whole = place_behind (contents_at size (map format_shown c.args.formats.now) c.args.cursor.now) in
    let format = get_or c.args.formats.now c.loop-format.format-index none in
    rw (p.1) (still_tells (line_fault c.in_err-value.field-0.0) (line_fault p.0) (or_fault bad (value_at size format.form None c.loop-format.cursor)) whole (ap line_fault p.2) c.in_err-value.ensures
    (passes_bad size c.args.formats.now c.loop-format.format-index none format c.loop-format.cursor whole c.loop-format-test.true refl c.loop-format.invariant))

pub loop-format-preserved : goal.loop-format-preserved
loop-format-preserved c =
    let size = size_of c.args.width in
    let format = get_or c.args.formats.now c.loop-format.format-index none in
    passes_more size c.args.formats.now c.loop-format.format-index none format (value_shown c.in_ok-value.field-0) c.loop-format.cursor c.value.new.cursor _ c.loop-format-test.true refl c.in_ok-value.ensures c.loop-format.invariant

pub returns : goal.returns
returns c = passes_all (size_of c.args.width) c.args.formats.now c.loop-format.format-index c.loop-format.cursor _ c.loop-format-test.false c.loop-format.invariant
