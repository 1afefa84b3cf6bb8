use Rattle.std.proofs.Common.{Some, refl, subst, sym}
use Rattle.std.proofs.lemmas.Result.{err_from_is_err_and}
use Rattle.dw_model.specs.Abbrev.{declared}
use Rattle.dw_model.specs.Answers.{Tells}
use Rattle.dw_model.specs.Entry.{Entry, entry_at}
use Rattle.dw_bytes.specs.Width.{size_of}
use Rattle.dw_forms.specs.Fault.{form_fault}
use Rattle.dw_forms.specs.declared.fault.FormFault.{FormFault}
use Rattle.dw_units.specs.Layouts.{IsKnown}
use Rattle.dw_units.specs.declared.layouts.Known.{Known}
use Rattle.dw_units.proofs.WalkedLemmas.{met, unread}
use Rattle.dw_units.proofs.entries.next_known.Goals as goal

pub returns-in_err-pass_bytes-in-Plain-clause-next : goal.returns-in_err-pass_bytes-in-Plain-clause-next
returns-in_err-pass_bytes-in-Plain-clause-next c declarations p h known =
    let size = size_of c.args.width in
    let plain = subst (λ (one : Known). IsKnown size (declared declarations c.args.head.code) one) c.in-Plain.is known in
    let e = err_from_is_err_and c.from_residual.result c.from_residual.ensures.1 in
    rw (e.1) (subst (λ (fault : FormFault). Tells (form_fault fault) (entry_at size declarations p)) (sym e.2) (unread size declarations c.args.head.code plain.0 c.in-Plain.children plain.1 plain.2 p c.args.cursor.now (form_fault c.in_err-pass_bytes-in-Plain.field-0.0) h.1 h.2 (c.in_err-pass_bytes-in-Plain.ensures size plain.1 plain.4)))

pub returns-in_ok-pass_bytes-in-Plain-clause-next : goal.returns-in_ok-pass_bytes-in-Plain-clause-next
returns-in_ok-pass_bytes-in-Plain-clause-next c declarations p h known =
    let size = size_of c.args.width in
    let plain = subst (λ (one : Known). IsKnown size (declared declarations c.args.head.code) one) c.in-Plain.is known in
    let read = c.in_ok-pass_bytes-in-Plain.ensures size plain.1 plain.4 in
    let entry : Entry = record { offset = p.at; tag = plain.0; children = c.in-Plain.children; attributes = read.0 } in
    (Some entry, met size declarations c.args.head.code plain.0 c.in-Plain.children plain.1 plain.2 p c.args.cursor.now c.pass_bytes.new.cursor read.0 h.1 h.2 read.1, (entry, refl, plain.3, refl))
