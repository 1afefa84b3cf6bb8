use Rattle.std.proofs.Common.{◌++◌, ◌∷◌, [], map, ap, refl}
use Rattle.std.proofs.lemmas.Result.{err_from_is_err_and}
use Rattle.dw_model.specs.Entry.{attributes_at}
use Rattle.dw_bytes.specs.Width.{size_of}
use Rattle.dw_forms.specs.Value.{value_shown}
use Rattle.dw_forms.specs.Fault.{form_fault}
use Rattle.dw_units.specs.declared.attributes.Attribute.{Attribute}
use Rattle.dw_units.specs.Attribute.{attribute_shown}
use Rattle.dw_forms.proofs.FirstValueLemmas.{fewer}
use Rattle.dw_units.proofs.EntryLemmas.{starts, goes_on, stops-exactly, ends}
use Rattle.dw_units.proofs.values.pass_attributes.Goals as goal

pub loop-spec-init : goal.loop-spec-init
loop-spec-init c = ([], starts (size_of c.args.width) c.fork-left.result c.args.specs.now c.args.cursor.now c.fork-left.ensures)

pub loop-spec-smaller : goal.loop-spec-smaller
loop-spec-smaller c = fewer c.loop-spec.left c.take_first.new.self c.in-Some.spec c.in-Some.ensures

pub loop-spec-preserved : goal.loop-spec-preserved
loop-spec-preserved c =
    let attribute : Attribute = record { name = c.in-Some.spec.name; value = c.in_ok-read_value.field-0 } in
    (c.loop-spec.invariant.0 ++ attribute ∷ [], goes_on (size_of c.args.width) c.loop-spec.invariant.0 c.loop-spec.left c.take_first.new.self c.in-Some.spec attribute (value_shown c.in_ok-read_value.field-0) c.loop-spec.cursor c.read_value.new.cursor (attributes_at (size_of c.args.width) c.args.specs.now c.args.cursor.now) c.in-Some.ensures c.in_ok-read_value.ensures refl c.loop-spec.invariant.1)

pub returns-in_err-read_value : goal.returns-in_err-read_value
returns-in_err-read_value c =
    let p = err_from_is_err_and c.from_residual.result c.from_residual.ensures.1 in
    rw (p.1) (stops-exactly (size_of c.args.width) c.loop-spec.invariant.0 c.loop-spec.left c.take_first.new.self c.in-Some.spec c.loop-spec.cursor (attributes_at (size_of c.args.width) c.args.specs.now c.args.cursor.now) (form_fault c.in_err-read_value.field-0.0) (form_fault p.0) (ap form_fault p.2) c.in-Some.ensures c.in_err-read_value.ensures.0 c.loop-spec.invariant.1)

pub returns : goal.returns
returns c =
    (map attribute_shown c.loop-spec.invariant.0, ends (size_of c.args.width) c.loop-spec.invariant.0 c.loop-spec.left c.loop-spec.cursor (attributes_at (size_of c.args.width) c.args.specs.now c.args.cursor.now) c.in_default.ensures.0 c.loop-spec.invariant.1)
