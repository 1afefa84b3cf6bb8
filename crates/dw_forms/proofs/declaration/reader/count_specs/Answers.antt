use Rattle.std.proofs.Common.{◌++◌, ◌∷◌, [], ◌∙◌, Ok, ap, arith, refl}
use Rattle.std.specs.Prelude.{option_map}
use Rattle.std.proofs.lemmas.List.{length-append}
use Rattle.std.proofs.lemmas.Result.{err_from_is_err_and}
use Rattle.dw_model.specs.Reading.{items}
use Rattle.dw_model.specs.Abbrev.{next_specification}
use Rattle.dw_model.proofs.AdvanceLemmas.{specifications_advance}
use Rattle.dw_model.proofs.ItemsLemmas.{with_front-nil, loop_more, loop_done}
use Rattle.dw_model.proofs.LoopLemmas.{smaller}
use Rattle.dw_forms.specs.Declaration.{spec_shown}
use Rattle.dw_forms.specs.Fault.{form_fault}
use Rattle.dw_forms.proofs.PassLemmas.{told-stops}
use Rattle.dw_forms.proofs.declaration.reader.count_specs.Goals as goal

pub loop-ahead-init : goal.loop-ahead-init
loop-ahead-init c = rw (c.fork-ahead.ensures) ([], with_front-nil next_specification (items (λ p. p.left) next_specification c.args.cursor.now), refl, omega (arith, c.left-most.ensures))

pub returns-in_err-next_spec : goal.returns-in_err-next_spec
returns-in_err-next_spec c =
    let p = err_from_is_err_and c.from_residual.result c.from_residual.ensures.1 in
    rw (p.1) (told-stops next_specification (λ p. p.left) specifications_advance c.loop-ahead.invariant.0 c.loop-ahead.ahead (form_fault c.in_err-next_spec.field-0.0) (form_fault p.0) (items (λ p. p.left) next_specification c.args.cursor.now) (ap form_fault p.2) c.in_err-next_spec.ensures c.loop-ahead.invariant.1)

pub returns-in_default : goal.returns-in_default
returns-in_default c =
    let ended = c.in_ok-next_spec.ensures ∙ ap (λ found. Ok (option_map spec_shown found, c.next_spec.new.cursor)) c.in_default.is in
    (c.loop-ahead.invariant.0, loop_done next_specification (λ p. p.left) specifications_advance c.loop-ahead.invariant.0 c.loop-ahead.ahead c.next_spec.new.cursor (items (λ p. p.left) next_specification c.args.cursor.now) ended c.loop-ahead.invariant.1, c.loop-ahead.invariant.2)

pub loop-ahead-smaller : goal.loop-ahead-smaller
loop-ahead-smaller c =
    specifications_advance c.loop-ahead.ahead (spec_shown c.in-Some.field-0) c.next_spec.new.cursor (smaller spec_shown next_specification (λ p. p.left) specifications_advance c.in_ok-next_spec.field-0 c.in-Some.field-0 c.loop-ahead.ahead c.next_spec.new.cursor c.in-Some.is c.in_ok-next_spec.ensures)

pub loop-ahead-preserved : goal.loop-ahead-preserved
loop-ahead-preserved c =
    let read = smaller spec_shown next_specification (λ p. p.left) specifications_advance c.in_ok-next_spec.field-0 c.in-Some.field-0 c.loop-ahead.ahead c.next_spec.new.cursor c.in-Some.is c.in_ok-next_spec.ensures in
    let fewer = specifications_advance c.loop-ahead.ahead (spec_shown c.in-Some.field-0) c.next_spec.new.cursor read in
    let counted = length-append c.loop-ahead.invariant.0 (spec_shown c.in-Some.field-0 ∷ []) in
    (c.loop-ahead.invariant.0 ++ spec_shown c.in-Some.field-0 ∷ [], loop_more next_specification (λ p. p.left) specifications_advance c.loop-ahead.invariant.0 (spec_shown c.in-Some.field-0) c.loop-ahead.ahead c.next_spec.new.cursor (items (λ p. p.left) next_specification c.args.cursor.now) read c.loop-ahead.invariant.1, omega (arith, counted, c.loop-ahead.invariant.2), omega (arith, c.loop-ahead.invariant.3, fewer))

pub prove-unreachable-requires : goal.prove-unreachable-requires
prove-unreachable-requires c =
    let read = smaller spec_shown next_specification (λ p. p.left) specifications_advance c.in_ok-next_spec.field-0 c.in-Some.field-0 c.loop-ahead.ahead c.next_spec.new.cursor c.in-Some.is c.in_ok-next_spec.ensures in
    let fewer = specifications_advance c.loop-ahead.ahead (spec_shown c.in-Some.field-0) c.next_spec.new.cursor read in
    omega (arith, c.loop-ahead.invariant.3, fewer, c.if-prove.true)
