use Rattle.std.proofs.Common.{◌∙◌, sym, ap}
use Rattle.dw_model.specs.Entry.{Entry}
use Rattle.dw_forms.specs.Value.{value_shown}
use Rattle.dw_units.specs.Counted.{first_of}
use Rattle.dw_units.specs.View.{attributes_in}
use Rattle.dw_units.proofs.AttrLemmas.{absent, not_counted, is_given}
use Rattle.dw_units.proofs.view.EntryView.attr.Goals as goal

pub returns-in_err-value : goal.returns-in_err-value
returns-in_err-value c =
    let seen = ap (first_of c.args.name) (sym (ap attributes_in c.self.invariant.1) ∙ ap (λ (entry : Entry). entry.attributes) c.self.view_is) in
    rw (c.from_residual.ensures) (absent c.args.name c.args.self.now (c.in_err-value.ensures.read c.self.invariant.0 c.self.invariant.1 ∙ seen))

pub returns-then-not-counts : goal.returns-then-not-counts
returns-then-not-counts c =
    let seen = ap (first_of c.args.name) (sym (ap attributes_in c.self.invariant.1) ∙ ap (λ (entry : Entry). entry.attributes) c.self.view_is) in
    not_counted c.args.name c.args.self.now (value_shown c.in_ok-value.value) (c.in_ok-value.ensures.read c.self.invariant.0 c.self.invariant.1 ∙ seen) (sym c.counts.ensures ∙ c.if-not-counts.true)

pub returns : goal.returns
returns c =
    let seen = ap (first_of c.args.name) (sym (ap attributes_in c.self.invariant.1) ∙ ap (λ (entry : Entry). entry.attributes) c.self.view_is) in
    is_given c.args.name c.args.self.now (value_shown c.in_ok-value.value) (c.in_ok-value.ensures.read c.self.invariant.0 c.self.invariant.1 ∙ seen) (sym c.counts.ensures ∙ c.if-not-counts.false)
