use Rattle.std.proofs.Common.{map, ap}
use Rattle.std.proofs.lemmas.Result.{err_from_is_err_and}
use Rattle.dw_model.specs.LineHeader.{contents_at, entries_at}
use Rattle.dw_bytes.specs.Width.{size_of}
use Rattle.dw_line.specs.Fault.{line_fault}
use Rattle.dw_line.specs.Header.{format_shown, entry_shown, used_at}
use Rattle.dw_line.proofs.CountLemmas.{tells, goes_on, stops, ends}
use Rattle.dw_line.proofs.EntryLemmas.{none_found, entry_at, entries-none, entries-some, entry-kept, entry-bad}
use Rattle.dw_line.proofs.entries.entries_of.Goals as goal

pub returns-in_err-contents : goal.returns-in_err-contents
returns-in_err-contents c = λ tables bases.
    let formats = map format_shown c.args.formats.now in
    let p = err_from_is_err_and c.from_residual.result c.from_residual.ensures.1 in
    let whole = entries_at tables bases (size_of c.args.width) formats c.args.count c.args.cursor.now in
    rw (p.1) (tells (line_fault c.in_err-contents.field-0.0) (line_fault p.0) (used_at none_found (contents_at (size_of c.args.width) formats c.loop.cursor)) whole (ap line_fault p.2) c.in_err-contents.ensures
    (λ e. stops (entry_shown tables bases) (entry_at (size_of c.args.width) tables bases formats) (entries_at tables bases (size_of c.args.width) formats) (entries-none (size_of c.args.width) tables bases formats) (entries-some (size_of c.args.width) tables bases formats) c.loop.entries.items c.args.count c.loop.counter c.loop.cursor whole c.loop-test.true (c.loop.invariant tables bases) (entry-bad (size_of c.args.width) tables bases formats c.loop.cursor e)))

pub loop-preserved : goal.loop-preserved
loop-preserved c = λ tables bases.
    let formats = map format_shown c.args.formats.now in
    let entry = entry-kept (size_of c.args.width) tables bases formats c.in_ok-contents.contents c.directory_of.result c.loop.cursor c.contents_of.new.cursor c.in_ok-contents.ensures c.directory_of.ensures in
    rw (c.in_ok-push.ensures.items) (goes_on (entry_shown tables bases) (entry_at (size_of c.args.width) tables bases formats) (entries_at tables bases (size_of c.args.width) formats) (entries-none (size_of c.args.width) tables bases formats) (entries-some (size_of c.args.width) tables bases formats) c.loop.entries.items (record { path = c.in_ok-contents.contents.path; directory = c.directory_of.result }) c.args.count c.loop.counter c.loop.cursor c.contents_of.new.cursor (entries_at tables bases (size_of c.args.width) formats c.args.count c.args.cursor.now) c.loop-test.true entry (c.loop.invariant tables bases))

pub returns : goal.returns
returns c = λ tables bases.
    let formats = map format_shown c.args.formats.now in
    ends (entry_shown tables bases) (entry_at (size_of c.args.width) tables bases formats) (entries_at tables bases (size_of c.args.width) formats) (entries-none (size_of c.args.width) tables bases formats) (entries-some (size_of c.args.width) tables bases formats) c.loop.entries.items c.args.count c.loop.counter c.loop.cursor (entries_at tables bases (size_of c.args.width) formats c.args.count c.args.cursor.now) c.loop-test.false (c.loop.invariant tables bases)
