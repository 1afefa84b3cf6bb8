use Rattle.std.proofs.Common.{◌≡◌, ◌∙◌, Option, Result, IfErr, ap, refl, subst, sym}
use Rattle.std.specs.Option.{ok_or}
use Rattle.std.proofs.lemmas.Result.{err_from_is_err_and}
use Rattle.dw_model.specs.Answers.{Tells}
use Rattle.dw_model.specs.Entry.{entry_at}
use Rattle.dw_forms.specs.Fault.{form_fault}
use Rattle.dw_forms.specs.declared.fault.FormFault.{FormFault}
use Rattle.dw_model.specs.Abbrev.{declared}
use Rattle.dw_bytes.specs.Width.{size_of}
use Rattle.dw_forms.specs.Table.{declarations_of}
use Rattle.dw_units.specs.Layouts.{MeansWhat}
use Rattle.dw_units.specs.declared.layouts.Meaning.{Meaning}
use Rattle.dw_units.proofs.WalkedLemmas.{unmeant}
use Rattle.dw_units.proofs.entries.next_first.Goals as goal

pub returns-in_err-meant-clause-next : goal.returns-in_err-meant-clause-next
returns-in_err-meant-clause-next c are p h =
    let declarations = declarations_of c.args.abbrevs in
    let none = subst (λ (meant : Option Meaning). MeansWhat meant (declared declarations c.args.head.code)) c.in_err-meant.ensures.ok_part c.declared_meaning.ensures.means in
    let undeclared = unmeant (size_of c.args.layouts.now.width) declarations p c.args.cursor.now c.args.head.code h.1 h.2 none in
    let e = err_from_is_err_and c.from_residual.result c.from_residual.ensures.1 in
    let told = c.in_err-meant.ensures.value ∙ ap (λ (meant : Option Meaning). ok_or meant FormFault.Code) c.in_err-meant.ensures.ok_part in
    let code = subst (λ (told : Result Meaning FormFault). IfErr told (λ fault. fault ≡ FormFault.Code)) (sym told) refl in
    rw (e.1) (subst (λ (fault : FormFault). Tells (form_fault fault) (entry_at (size_of c.args.layouts.now.width) declarations p)) (sym (e.2 ∙ code)) undeclared)

pub returns-clause-next : goal.returns-clause-next
returns-clause-next c are p h =
    let declarations = declarations_of c.args.abbrevs in
    rw (← c.lay_out.ensures.width) (c.next_known.ensures.next declarations p h (c.in-Some.ensures declarations (c.lay_out.ensures.list are)))

pub returns-clause-last : goal.returns-clause-last
returns-clause-last c are p h readable =
    let declarations = declarations_of c.args.abbrevs in
    let old = rw (← c.lay_out.ensures.width) at readable in
    rw (← c.lay_out.ensures.width) (c.next_known.ensures.last declarations p h (c.in-Some.ensures declarations (c.lay_out.ensures.list are)) old)
