use Rattle.std.proofs.Common.{◌≡◌, map, Ok, subst}
use Rattle.dw_model.specs.Answers.{Tells}
use Rattle.dw_model.specs.Reading.{Place}
use Rattle.dw_model.specs.LineHeader.{contents_at}
use Rattle.dw_bytes.specs.Width.{size_of}
use Rattle.dw_line.specs.Fault.{line_fault}
use Rattle.dw_line.specs.Header.{format_shown, contents_shown, used_at}
use Rattle.dw_line.proofs.EntryLemmas.{none_found, place-seen, place-bad}
use Rattle.dw_line.proofs.entries.entry_in.Goals as goal

pub returns-in-Ok : goal.returns-in-Ok
returns-in-Ok c = λ tables bases.
    let size = size_of c.args.width in
    let formats = map format_shown c.args.formats.now in
    let read = subst (λ (p : Place). used_at none_found (contents_at size formats p) ≡ Ok (contents_shown c.in-Ok.contents, c.contents_of.new.cursor)) c.fork-ahead.ensures c.in-Ok.ensures in
    place-seen size tables bases formats c.in-Ok.contents c.directory_of.result c.args.place.now c.contents_of.new.cursor read c.directory_of.ensures

pub returns-in-Err : goal.returns-in-Err
returns-in-Err c = λ tables bases.
    let size = size_of c.args.width in
    let formats = map format_shown c.args.formats.now in
    let told = subst (λ (p : Place). Tells (line_fault c.in-Err.field-0) (used_at none_found (contents_at size formats p))) c.fork-ahead.ensures c.in-Err.ensures in
    place-bad size tables bases formats (line_fault c.in-Err.field-0) c.args.place.now told
