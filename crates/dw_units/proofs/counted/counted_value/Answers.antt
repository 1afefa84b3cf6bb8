use Rattle.std.proofs.Common.{◌∙◌, false, sym, ap}
use Rattle.dw_model.specs.Entry.{Entry, attributes_at}
use Rattle.dw_bytes.specs.Width.{size_of}
use Rattle.dw_forms.specs.Value.{value_shown}
use Rattle.dw_units.specs.Counted.{first_of}
use Rattle.dw_units.specs.View.{attributes_in}
use Rattle.dw_units.proofs.AttrLemmas.{absent, not_counted, is_given}
use Rattle.dw_units.proofs.counted.counted_value.Goals as goal

pub returns-in_err-value : goal.returns-in_err-value
returns-in_err-value c =
    let entry : Entry = record { offset = 0; tag = 0; children = false; attributes = attributes_in (attributes_at (size_of c.args.width) c.args.layout.now c.args.values.now) } in
    let seen = ap (first_of c.args.name) (sym (ap attributes_in c.requires.1)) in
    rw (c.from_residual.ensures) (absent c.args.name entry (c.in_err-value.ensures.read c.requires.0 c.requires.1 ∙ seen))

pub returns-then-not-counts : goal.returns-then-not-counts
returns-then-not-counts c =
    let entry : Entry = record { offset = 0; tag = 0; children = false; attributes = attributes_in (attributes_at (size_of c.args.width) c.args.layout.now c.args.values.now) } in
    let seen = ap (first_of c.args.name) (sym (ap attributes_in c.requires.1)) in
    not_counted c.args.name entry (value_shown c.in_ok-value.value) (c.in_ok-value.ensures.read c.requires.0 c.requires.1 ∙ seen) (sym c.counts.ensures ∙ c.if-not-counts.true)

pub returns : goal.returns
returns c =
    let entry : Entry = record { offset = 0; tag = 0; children = false; attributes = attributes_in (attributes_at (size_of c.args.width) c.args.layout.now c.args.values.now) } in
    let seen = ap (first_of c.args.name) (sym (ap attributes_in c.requires.1)) in
    is_given c.args.name entry (value_shown c.in_ok-value.value) (c.in_ok-value.ensures.read c.requires.0 c.requires.1 ∙ seen) (sym c.counts.ensures ∙ c.if-not-counts.false)
