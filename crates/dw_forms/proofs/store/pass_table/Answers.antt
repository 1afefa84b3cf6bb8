use Rattle.std.proofs.Common.{◌≡◌, ◌++◌, ◌∷◌, [], ◌∙◌, true, false, Ok, ap, rules}
use Rattle.std.proofs.lemmas.Result.{err_from_is_err_and}
use Rattle.dw_model.specs.Reading.{items}
use Rattle.dw_model.specs.Abbrev.{next_declaration}
use Rattle.dw_model.proofs.AdvanceLemmas.{declarations_advance}
use Rattle.dw_model.proofs.ItemsLemmas.{with_front-nil, loop_more, loop_done}
use Rattle.dw_forms.specs.Fault.{form_fault}
use Rattle.dw_forms.proofs.PassLemmas.{told-stops, made-fault, made-some, made-none}
use Rattle.dw_forms.proofs.store.pass_table.Goals as goal

pub loop-init : goal.loop-init
loop-init c = ([], with_front-nil next_declaration (items (λ p. p.left) next_declaration c.args.cursor.now))

pub returns-in_err-pass_decl : goal.returns-in_err-pass_decl
returns-in_err-pass_decl c =
    let p = err_from_is_err_and c.from_residual.result c.from_residual.ensures.1 in
    let fault = made-fault (next_declaration c.loop.cursor) (form_fault c.in_err-pass_decl.field-0.0) c.in_err-pass_decl.ensures in
    rw (p.1) (told-stops next_declaration (λ p. p.left) declarations_advance c.loop.invariant.0 c.loop.cursor (form_fault c.in_err-pass_decl.field-0.0) (form_fault p.0) (items (λ p. p.left) next_declaration c.args.cursor.now) (ap form_fault p.2) fault c.loop.invariant.1)

pub returns-then-not-branch : goal.returns-then-not-branch
returns-then-not-branch c =
    let none : c.in_ok-pass_decl.field-0 ≡ false = search rules in
    let ended = made-none (next_declaration c.loop.cursor) c.pass_decl.new.cursor (c.in_ok-pass_decl.ensures ∙ ap (λ found. Ok (found, c.pass_decl.new.cursor)) none) in
    (c.loop.invariant.0, loop_done next_declaration (λ p. p.left) declarations_advance c.loop.invariant.0 c.loop.cursor c.pass_decl.new.cursor (items (λ p. p.left) next_declaration c.args.cursor.now) ended c.loop.invariant.1)

pub loop-smaller : goal.loop-smaller
loop-smaller c =
    let some : c.in_ok-pass_decl.field-0 ≡ true = search rules in
    let read = made-some (next_declaration c.loop.cursor) c.pass_decl.new.cursor (c.in_ok-pass_decl.ensures ∙ ap (λ found. Ok (found, c.pass_decl.new.cursor)) some) in
    declarations_advance c.loop.cursor read.0 c.pass_decl.new.cursor read.1

pub loop-preserved : goal.loop-preserved
loop-preserved c =
    let some : c.in_ok-pass_decl.field-0 ≡ true = search rules in
    let read = made-some (next_declaration c.loop.cursor) c.pass_decl.new.cursor (c.in_ok-pass_decl.ensures ∙ ap (λ found. Ok (found, c.pass_decl.new.cursor)) some) in
    (c.loop.invariant.0 ++ read.0 ∷ [], loop_more next_declaration (λ p. p.left) declarations_advance c.loop.invariant.0 read.0 c.loop.cursor c.pass_decl.new.cursor (items (λ p. p.left) next_declaration c.args.cursor.now) read.1 c.loop.invariant.1)
