use Rattle.std.proofs.Common.{ap, refl}
use Rattle.std.proofs.lemmas.Result.{err_from_is_err_and}
use Rattle.dw_model.specs.Entry.{attributes_at}
use Rattle.dw_bytes.specs.Width.{size_of}
use Rattle.dw_forms.specs.Value.{value_shown}
use Rattle.dw_forms.specs.Fault.{form_fault}
use Rattle.dw_forms.proofs.FirstValueLemmas.{fewer}
use Rattle.dw_units.proofs.EntryLemmas.{goes_on, stops, ends}
use Rattle.dw_units.proofs.attributes.read_all.Goals as goal

pub loop-spec-smaller : goal.loop-spec-smaller
loop-spec-smaller c = fewer c.loop-spec.left c.take_first.new.self c.in-Some.spec c.in-Some.ensures

pub returns-in_err-value : goal.returns-in_err-value
returns-in_err-value c =
    let p = err_from_is_err_and c.from_residual.result c.from_residual.ensures.1 in
    rw (p.1) (stops (size_of c.args.width) c.loop-spec.attributes.items c.loop-spec.left c.take_first.new.self c.in-Some.spec c.loop-spec.cursor (attributes_at (size_of c.args.width) c.args.specs.now c.args.cursor.now) (form_fault c.in_err-value.field-0.0) (form_fault p.0) (ap form_fault p.2) c.in-Some.ensures c.in_err-value.ensures.0 c.loop-spec.invariant)

pub loop-spec-preserved : goal.loop-spec-preserved
loop-spec-preserved c =
    rw (c.in_ok-push.ensures.items) (goes_on (size_of c.args.width) c.loop-spec.attributes.items c.loop-spec.left c.take_first.new.self c.in-Some.spec (record { name = c.in-Some.spec.name; value = c.in_ok-value.value }) (value_shown c.in_ok-value.value) c.loop-spec.cursor c.read_value.new.cursor (attributes_at (size_of c.args.width) c.args.specs.now c.args.cursor.now) c.in-Some.ensures c.in_ok-value.ensures refl c.loop-spec.invariant)

pub returns : goal.returns
returns c =
    ends (size_of c.args.width) c.loop-spec.attributes.items c.loop-spec.left c.loop-spec.cursor (attributes_at (size_of c.args.width) c.args.specs.now c.args.cursor.now) c.in_default.ensures.0 c.loop-spec.invariant
