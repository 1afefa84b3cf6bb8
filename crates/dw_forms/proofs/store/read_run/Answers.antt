use Rattle.std.proofs.Common.{◌≡◌, ◌∙◌, ℕ, Option, None, Ok, Some, ap, subst, sym}
use Rattle.std.specs.Prelude.{IfSome}
use Rattle.dw_model.specs.Abbrev.{Declaration}
use Rattle.dw_model.proofs.AdvanceLemmas.{declarations_advance}
use Rattle.dw_forms.specs.declared.declaration.Decl.{Decl}
use Rattle.dw_forms.specs.Declaration.{declaration_shown}
use Rattle.dw_forms.specs.Starts.{start_at}
use Rattle.dw_forms.proofs.StoreLemmas.{apart-more, chained-more, found-one}
use Rattle.dw_forms.proofs.store.read_run.Goals as goal

pub loop-start-smaller : goal.loop-start-smaller
loop-start-smaller c =
    declarations_advance c.loop-start.cursor (declaration_shown c.in-Some-2.declaration) c.next_decl.new.cursor (found-one c.loop-start.cursor c.next_decl.new.cursor c.in_ok-declaration.field-0 c.in-Some-2.declaration c.in-Some-2.is c.in_ok-declaration.ensures.read)

pub loop-start-preserved : goal.loop-start-preserved
loop-start-preserved c =
    let laid = c.in_ok-listed.field-0 in
    let offset = c.in_ok-listed.ensures.offset ∙ subst (λ (found : Option Decl). IfSome found (λ declaration. declaration.offset ≡ c.loop-start.cursor.at)) c.in-Some-2.is c.in_ok-declaration.ensures.offset in
    let read = found-one c.loop-start.cursor c.next_decl.new.cursor c.in_ok-declaration.field-0 c.in-Some-2.declaration c.in-Some-2.is c.in_ok-declaration.ensures.read ∙ ap (λ (d : Declaration). Ok (Some d, c.next_decl.new.cursor)) (sym c.in_ok-listed.ensures.same) in
    rw (c.in_ok-push.ensures.items) (chained-more c.args.cursor.now c.loop-start.cursor c.next_decl.new.cursor c.loop-start.declarations.items laid c.loop-start.invariant.0 offset read, apart-more c.args.starts.now c.loop-start.declarations.items laid c.loop-start.cursor c.loop-start.invariant.1 offset (subst (λ (at : ℕ). start_at c.args.starts.now at ≡ None) c.at.ensures (sym c.in_default.ensures)))
