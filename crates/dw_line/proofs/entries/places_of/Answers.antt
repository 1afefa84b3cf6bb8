use Rattle.std.proofs.Common.{◌≡◌, ◌∙◌, ◌++◌, [], map, Result, Ok, ap, refl, sym, subst}
use Rattle.std.proofs.lemmas.Result.{err_from_is_err_and}
use Rattle.dw_model.specs.Answers.{Tells}
use Rattle.dw_model.specs.Faults.{Bad}
use Rattle.dw_model.specs.Reading.{Place}
use Rattle.dw_model.specs.LineHeader.{contents_at, entries_at}
use Rattle.dw_model.proofs.ReadingLemmas.{between-none}
use Rattle.dw_model.proofs.SpellingLemmas.{joined}
use Rattle.dw_bytes.specs.Width.{size_of}
use Rattle.dw_line.specs.Fault.{line_fault}
use Rattle.dw_line.specs.Header.{format_shown, entry_in, place_behind, placed}
use Rattle.dw_line.proofs.CountLemmas.{tells, begins, goes_on, stops, ends}
use Rattle.dw_line.proofs.EntryLemmas.{entry_at, entries-none, entries-some, passed-between, placed-between, place-read, place-unread}
use Rattle.dw_line.proofs.entries.places_of.Goals as goal

pub returns-in_err-pass_contents : goal.returns-in_err-pass_contents
returns-in_err-pass_contents c = λ tables bases.
    let size = size_of c.args.width in
    let formats = map format_shown c.args.formats.now in
    let p = err_from_is_err_and c.from_residual-in_err-pass_contents.result c.from_residual-in_err-pass_contents.ensures.1 in
    let whole = entries_at tables bases size formats c.args.count c.args.cursor.now in
    let same : place_behind (contents_at size (map format_shown c.as_slice-passed.result.now) c.loop.cursor) ≡ place_behind (contents_at size formats c.loop.cursor) = rw c.as_slice-passed.ensures (c.in_ok-kept.ensures size c.loop.cursor) in
    rw (p.1) (tells (line_fault c.in_err-pass_contents.field-0.0) (line_fault p.0) (place_behind (contents_at size formats c.loop.cursor)) whole (ap line_fault p.2) (subst (λ (read : Result (Unit {0} × Place) Bad). Tells (line_fault c.in_err-pass_contents.field-0.0) read) same c.in_err-pass_contents.ensures)
    (λ e. stops (λ at. entry_in tables bases size formats (placed c.args.cursor.now at)) (entry_at size tables bases formats) (entries_at tables bases size formats) (entries-none size tables bases formats) (entries-some size tables bases formats) c.loop.places.items c.args.count c.loop.counter c.loop.cursor whole c.loop-test.true (c.loop.invariant.read tables bases) (place-unread size tables bases formats c.loop.cursor e)))

pub loop-init : goal.loop-init
loop-init c = record {
  read = λ tables bases. rw (c.in_ok-places.ensures.items) (begins (λ at. entry_in tables bases (size_of c.args.width) (map format_shown c.args.formats.now) (placed c.args.cursor.now at)) (entry_at (size_of c.args.width) tables bases (map format_shown c.args.formats.now)) (entries_at tables bases (size_of c.args.width) (map format_shown c.args.formats.now)) (entries-none (size_of c.args.width) tables bases (map format_shown c.args.formats.now)) (entries-some (size_of c.args.width) tables bases (map format_shown c.args.formats.now)) c.args.count c.args.cursor.now);
  passed = ([], between-none c.args.cursor.now c.args.cursor.now refl);
}

pub loop-preserved : goal.loop-preserved
loop-preserved c =
    let size = size_of c.args.width in
    let formats = map format_shown c.args.formats.now in
    let before = c.loop.invariant.passed in
    let same : place_behind (contents_at size (map format_shown c.as_slice-passed.result.now) c.loop.cursor) ≡ place_behind (contents_at size formats c.loop.cursor) = rw c.as_slice-passed.ensures (c.in_ok-kept.ensures size c.loop.cursor) in
    let read = sym same ∙ c.in_ok-pass_contents.ensures in
    let next = passed-between size formats c.loop.cursor c.pass_contents.new.cursor read in
    record {
      read = λ tables bases.
          let entry = subst (λ (p : Place). entry_at size tables bases formats c.loop.cursor ≡ Ok (entry_in tables bases size formats p, c.pass_contents.new.cursor)) (sym (placed-between size c.args.cursor.now c.loop.cursor before.0 before.1)) (place-read size tables bases formats c.loop.cursor c.pass_contents.new.cursor read) in
          rw (c.in_ok-push.ensures.items, c.at-at.ensures) (goes_on (λ at. entry_in tables bases size formats (placed c.args.cursor.now at)) (entry_at size tables bases formats) (entries_at tables bases size formats) (entries-none size tables bases formats) (entries-some size tables bases formats) c.loop.places.items c.loop.cursor.at c.args.count c.loop.counter c.loop.cursor c.pass_contents.new.cursor (entries_at tables bases size formats c.args.count c.args.cursor.now) c.loop-test.true entry (c.loop.invariant.read tables bases));
      passed = (before.0 ++ next.0, joined c.args.cursor.now c.loop.cursor c.pass_contents.new.cursor before.0 next.0 before.1 next.1);
    }

pub returns : goal.returns
returns c = λ tables bases.
    let size = size_of c.args.width in
    let formats = map format_shown c.args.formats.now in
    ends (λ at. entry_in tables bases size formats (placed c.args.cursor.now at)) (entry_at size tables bases formats) (entries_at tables bases size formats) (entries-none size tables bases formats) (entries-some size tables bases formats) c.loop.places.items c.args.count c.loop.counter c.loop.cursor (entries_at tables bases size formats c.args.count c.args.cursor.now) c.loop-test.false (c.loop.invariant.read tables bases)
