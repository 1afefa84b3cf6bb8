use Rattle.std.proofs.Common.{ap}
use Rattle.std.proofs.lemmas.Result.{err_from_is_err_and}
use Rattle.dw_model.specs.Results.{or_fault}
use Rattle.dw_model.specs.Leb.{uleb_at}
use Rattle.dw_model.specs.Faults.{bad}
use Rattle.dw_model.specs.LineHeader.{formats_at}
use Rattle.dw_line.specs.Fault.{line_fault}
use Rattle.dw_line.specs.Header.{format_shown}
use Rattle.dw_line.proofs.CountLemmas.{tells, goes_on, stops, ends}
use Rattle.dw_line.proofs.EntryLemmas.{format_at, formats-none, formats-some, format-read, format-bad, format-half}
use Rattle.dw_line.proofs.entries.formats_of.Goals as goal

pub returns-in_err-content : goal.returns-in_err-content
returns-in_err-content c =
    let p = err_from_is_err_and c.from_residual.result c.from_residual.ensures.1 in
    let whole = formats_at c.args.count c.args.cursor.now in
    rw (p.1) (tells (line_fault c.in_err-content.field-0.0) (line_fault p.0) (or_fault bad (uleb_at c.loop.cursor)) whole (ap line_fault p.2) c.in_err-content.ensures
    (λ e. stops format_shown format_at formats_at formats-none formats-some c.loop.formats.items c.args.count c.loop.counter c.loop.cursor whole c.loop-test.true c.loop.invariant (format-bad c.loop.cursor e)))

pub returns-in_err-form : goal.returns-in_err-form
returns-in_err-form c =
    let p = err_from_is_err_and c.from_residual-in_err-form.result c.from_residual-in_err-form.ensures.1 in
    let whole = formats_at c.args.count c.args.cursor.now in
    rw (p.1) (tells (line_fault c.in_err-form.field-0.0) (line_fault p.0) (or_fault bad (uleb_at c.uleb.new.cursor)) whole (ap line_fault p.2) c.in_err-form.ensures
    (λ e. stops format_shown format_at formats_at formats-none formats-some c.loop.formats.items c.args.count c.loop.counter c.loop.cursor whole c.loop-test.true c.loop.invariant (format-half c.loop.cursor c.uleb.new.cursor c.in_ok-content.content c.in_ok-content.ensures e)))

pub loop-preserved : goal.loop-preserved
loop-preserved c =
    let format = format-read c.loop.cursor c.uleb.new.cursor c.uleb-in-loop.new.cursor c.in_ok-content.content c.in_ok-form.form c.in_ok-content.ensures c.in_ok-form.ensures in
    rw (c.in_ok-push.ensures.ok) (goes_on format_shown format_at formats_at formats-none formats-some c.loop.formats.items (record { content = c.in_ok-content.content; form = c.in_ok-form.form }) c.args.count c.loop.counter c.loop.cursor c.uleb-in-loop.new.cursor (formats_at c.args.count c.args.cursor.now) c.loop-test.true format c.loop.invariant)

pub returns : goal.returns
returns c =
    ends format_shown format_at formats_at formats-none formats-some c.loop.formats.items c.args.count c.loop.counter c.loop.cursor (formats_at c.args.count c.args.cursor.now) c.loop-test.false c.loop.invariant
