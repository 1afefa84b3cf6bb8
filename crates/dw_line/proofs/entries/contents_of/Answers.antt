use Rattle.std.proofs.Common.{map, get_or, None, ap, refl}
use Rattle.std.proofs.lemmas.Result.{err_from_is_err_and}
use Rattle.dw_model.specs.Results.{or_fault}
use Rattle.dw_model.specs.Form.{value_at}
use Rattle.dw_model.specs.Faults.{bad}
use Rattle.dw_model.specs.LineHeader.{contents_at}
use Rattle.dw_bytes.specs.Width.{size_of}
use Rattle.dw_forms.specs.Value.{value_shown}
use Rattle.dw_line.specs.declared.entries.Format.{Format}
use Rattle.dw_line.specs.Fault.{line_fault}
use Rattle.dw_line.specs.Header.{format_shown, used_at}
use Rattle.dw_line.proofs.CountLemmas.{still_tells}
use Rattle.dw_line.proofs.EntryLemmas.{none_found, contains_more, contains_bad, contains_all}
use Rattle.dw_line.proofs.entries.contents_of.Goals as goal

-- what is in the place of a format after the last one
abbrev none : Format
none = record { content = 0; form = 0 }

pub returns-in_err-value : goal.returns-in_err-value
returns-in_err-value c =
    let p = err_from_is_err_and c.from_residual.result c.from_residual.ensures.1 in
    let whole = used_at none_found (contents_at (size_of c.args.width) (map format_shown c.args.formats.now) c.args.cursor.now) in
    let format = get_or c.args.formats.now c.loop-format.format-index none in
    rw (p.1) (still_tells (line_fault c.in_err-value.field-0.0) (line_fault p.0) (or_fault bad (value_at (size_of c.args.width) format.form None c.loop-format.cursor)) whole (ap line_fault p.2) c.in_err-value.ensures
    (λ e. contains_bad (size_of c.args.width) c.loop-format.contents c.args.formats.now c.loop-format.format-index none format c.loop-format.cursor whole c.loop-format-test.true refl c.loop-format.invariant e))

pub loop-format-preserved : goal.loop-format-preserved
loop-format-preserved c =
    let whole = used_at none_found (contents_at (size_of c.args.width) (map format_shown c.args.formats.now) c.args.cursor.now) in
    contains_more (size_of c.args.width) c.loop-format.contents c.with-contents.result c.args.formats.now c.loop-format.format-index none (get_or c.args.formats.now c.loop-format.format-index none) (value_shown c.in_ok-value.value) c.loop-format.cursor c.value.new.cursor whole c.loop-format-test.true refl c.in_ok-value.ensures c.with-contents.ensures c.loop-format.invariant

pub returns : goal.returns
returns c =
    contains_all (size_of c.args.width) c.loop-format.contents c.args.formats.now c.loop-format.format-index c.loop-format.cursor (used_at none_found (contents_at (size_of c.args.width) (map format_shown c.args.formats.now) c.args.cursor.now)) c.loop-format-test.false c.loop-format.invariant
