use Rattle.std.proofs.Common.{◌≡◌, ◌∙◌, map, Ok, sym, subst}
use Rattle.dw_model.specs.Reading.{Place}
use Rattle.dw_model.specs.LineHeader.{contents_at}
use Rattle.dw_bytes.specs.Width.{size_of}
use Rattle.dw_line.specs.Header.{format_shown, contents_shown, used_at}
use Rattle.dw_line.proofs.EntryLemmas.{none_found, empty-entries}
use Rattle.dw_line.proofs.entries.empty_entry.Goals as goal

pub returns : goal.returns
returns c =
    let size = size_of c.args.width in
    let formats = map format_shown c.args.formats.now in
    let read = subst (λ (p : Place). used_at none_found (contents_at size formats p) ≡ Ok (contents_shown c.in-Ok.contents, c.contents_of.new.cursor)) c.fork-ahead.ensures c.in-Ok.ensures in
    empty-entries size formats c.in-Ok.contents c.directory_of.result c.args.cursor.now c.contents_of.new.cursor read c.directory_of.ensures (sym c.left.ensures ∙ c.if-left.false ∙ c.left-2.ensures)
