use Rattle.std.proofs.Common.{◌≡◌, ◌∙◌, true, false, Some, ap, refl, rules, subst, sym}
use Rattle.std.proofs.lemmas.Result.{err_from_is_err_and}
use Rattle.dw_model.specs.Answers.{Tells}
use Rattle.dw_model.specs.Entry.{Entry, attributes_at, entry_at}
use Rattle.dw_model.specs.Tree.{is_function}
use Rattle.dw_bytes.specs.Width.{size_of}
use Rattle.dw_forms.specs.Fault.{form_fault}
use Rattle.dw_forms.specs.Shape.{specs_of}
use Rattle.dw_forms.specs.declared.fault.FormFault.{FormFault}
use Rattle.dw_units.proofs.WalkedLemmas.{met, unread, ranged-is, last-is, readable-is}
use Rattle.dw_units.proofs.entries.next_by.Goals as goal

pub returns-in_err-pass_meant-clause-next : goal.returns-in_err-pass_meant-clause-next
returns-in_err-pass_meant-clause-next c declarations p h =
    let meant = c.args.meant in
    let e = err_from_is_err_and c.from_residual.result c.from_residual.ensures.1 in
    rw (e.1) (subst (λ (fault : FormFault). Tells (form_fault fault) (entry_at (size_of c.args.width) declarations p)) (sym e.2) (unread (size_of c.args.width) declarations c.args.head.code meant.tag meant.children (specs_of meant.shape) h.1.0 p c.args.cursor.now (form_fault c.in_err-pass_meant.field-0.0) h.0.1 h.0.2 (c.in_err-pass_meant.ensures h.1.1)))

pub returns-then-not-is_function-clause-next : goal.returns-then-not-is_function-clause-next
returns-then-not-is_function-clause-next c declarations p h =
    let size = size_of c.args.width in
    let meant = c.args.meant in
    let entry : Entry = record { offset = p.at; tag = meant.tag; children = meant.children; attributes = (c.in_ok-pass_meant.ensures h.1.1).0 } in
    let none : is_function entry ≡ false = search rules in
    (Some entry, met size declarations c.args.head.code meant.tag meant.children (specs_of meant.shape) h.1.0 p c.args.cursor.now c.pass_meant.new.cursor (c.in_ok-pass_meant.ensures h.1.1).0 h.0.1 h.0.2 (c.in_ok-pass_meant.ensures h.1.1).1, (entry, refl, none, refl))

pub returns-then-not-may_have_ranges-clause-next : goal.returns-then-not-may_have_ranges-clause-next
returns-then-not-may_have_ranges-clause-next c declarations p h =
    let size = size_of c.args.width in
    let meant = c.args.meant in
    let entry : Entry = record { offset = p.at; tag = meant.tag; children = meant.children; attributes = (c.in_ok-pass_meant.ensures h.1.1).0 } in
    let is : is_function entry ≡ true = search rules in
    let told : c.may_have_ranges.result ≡ false = c.if-not-may_have_ranges.true in
    let unranged = ranged-is size declarations c.args.head.code meant.tag meant.children (specs_of meant.shape) h.1.0 p c.args.cursor.now h.0.1 ∙ sym c.may_have_ranges.ensures.told ∙ told in
    let none = c.may_have_ranges.ensures.right told size c.args.cursor.now c.pass_meant.new.cursor entry (c.in_ok-pass_meant.ensures h.1.1).1 in
    (Some entry, met size declarations c.args.head.code meant.tag meant.children (specs_of meant.shape) h.1.0 p c.args.cursor.now c.pass_meant.new.cursor (c.in_ok-pass_meant.ensures h.1.1).0 h.0.1 h.0.2 (c.in_ok-pass_meant.ensures h.1.1).1, (entry, refl, is, unranged, none, refl))

pub returns-clause-next : goal.returns-clause-next
returns-clause-next c declarations p h =
    let size = size_of c.args.width in
    let meant = c.args.meant in
    let entry : Entry = record { offset = p.at; tag = meant.tag; children = meant.children; attributes = (c.in_ok-pass_meant.ensures h.1.1).0 } in
    let is : is_function entry ≡ true = search rules in
    let told : c.may_have_ranges.result ≡ true = c.if-not-may_have_ranges.false in
    let ranged = ranged-is size declarations c.args.head.code meant.tag meant.children (specs_of meant.shape) h.1.0 p c.args.cursor.now h.0.1 ∙ sym c.may_have_ranges.ensures.told ∙ told in
    let read = ap (attributes_at size (specs_of meant.shape)) c.fork-values.ensures ∙ (c.in_ok-pass_meant.ensures h.1.1).1 in
    let last = last-is size declarations (record { code = c.args.head.code; offset = c.args.head.offset; values = c.fork-values.result }) meant.tag meant.children (specs_of meant.shape) h.1.0 ((c.in_ok-pass_meant.ensures h.1.1).0, c.pass_meant.new.cursor) read in
    (Some entry, met size declarations c.args.head.code meant.tag meant.children (specs_of meant.shape) h.1.0 p c.args.cursor.now c.pass_meant.new.cursor (c.in_ok-pass_meant.ensures h.1.1).0 h.0.1 h.0.2 (c.in_ok-pass_meant.ensures h.1.1).1, (entry, refl, last ∙ ap (λ offset. Some (record { offset = offset; tag = meant.tag; children = meant.children; attributes = (c.in_ok-pass_meant.ensures h.1.1).0 })) h.0.0, is, ranged))

pub returns-clause-last : goal.returns-clause-last
returns-clause-last c declarations p h readable =
    let size = size_of c.args.width in
    let meant = c.args.meant in
    let read = ap (attributes_at size (specs_of meant.shape)) c.fork-values.ensures ∙ (c.in_ok-pass_meant.ensures h.1.1).1 in
    readable-is size declarations (record { code = c.args.head.code; offset = c.args.head.offset; values = c.fork-values.result }) meant.tag meant.children (specs_of meant.shape) h.1.0 ((c.in_ok-pass_meant.ensures h.1.1).0, c.pass_meant.new.cursor) read
