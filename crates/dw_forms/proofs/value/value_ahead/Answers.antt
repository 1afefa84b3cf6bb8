use Rattle.std.proofs.Common.{sym}
use Rattle.std.proofs.lemmas.Result.{err_from_is_err_and}
use Rattle.dw_model.specs.Form.{value_at}
use Rattle.dw_model.proofs.LebReading.{uleb-left}
use Rattle.dw_bytes.specs.Leb.{leb_fault}
use Rattle.dw_bytes.specs.Width.{size_of}
use Rattle.dw_forms.specs.Fault.{form_fault}
use Rattle.dw_forms.specs.Spelling.{spelling_shown}
use Rattle.dw_forms.proofs.IndirectLemmas.{form_told, form_next, form_unknown, form_known}
use Rattle.dw_forms.proofs.value.value_ahead.Goals as goal

pub returns-in_err-named : goal.returns-in_err-named
returns-in_err-named c =
    let p = err_from_is_err_and c.from_residual.result c.from_residual.ensures.1 in
    rw (p.1) (form_told (size_of c.args.width) (leb_fault c.in_err-named.field-0.0) (form_fault p.0) c.loop-named.named c.loop-named.constant c.loop-named.cursor (value_at (size_of c.args.width) c.args.form c.args.implicit c.args.cursor.now) c.loop-named-test.true c.loop-named.invariant c.in_err-named.ensures.0 p.2)

pub loop-named-smaller : goal.loop-named-smaller
loop-named-smaller c = uleb-left c.loop-named.cursor c.uleb.new.self c.in_ok-named.named c.in_ok-named.ensures

pub loop-named-preserved : goal.loop-named-preserved
loop-named-preserved c =
    form_next (size_of c.args.width) c.loop-named.named c.in_ok-named.named c.loop-named.constant c.loop-named.cursor c.uleb.new.self (value_at (size_of c.args.width) c.args.form c.args.implicit c.args.cursor.now) c.loop-named-test.true c.loop-named.invariant c.in_ok-named.ensures

pub returns-in_default : goal.returns-in_default
returns-in_default c =
    form_unknown (size_of c.args.width) c.loop-named.named c.loop-named.constant c.loop-named.cursor (value_at (size_of c.args.width) c.args.form c.args.implicit c.args.cursor.now) c.loop-named-test.false c.loop-named.invariant (sym c.in_default.ensures)

pub returns : goal.returns
returns c =
    let e = form_known (size_of c.args.width) c.loop-named.named c.loop-named.constant c.loop-named.cursor (value_at (size_of c.args.width) c.args.form c.args.implicit c.args.cursor.now) (spelling_shown c.in-Some.spelling) c.loop-named-test.false c.loop-named.invariant (sym c.in-Some.ensures) in
    rw (← e) c.spelled.ensures
