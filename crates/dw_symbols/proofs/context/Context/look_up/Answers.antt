use Rattle.std.proofs.Common.{◌∙◌, ap, arith}
use Rattle.dw_symbols.specs.ContextState.{ContextState}
use Rattle.dw_symbols.specs.ImageUnit.{unit_in}
use Rattle.dw_symbols.proofs.AnswerLemmas.{answer-none, answer-told, answer-fault}
use Rattle.dw_symbols.proofs.TreeLemmas.{answering-kept}
use Rattle.dw_symbols.proofs.context.Context.look_up.Goals as goal

pub returns-in_default-clause-answer : goal.returns-in_default-clause-answer
returns-in_default-clause-answer c =
    grind (arith, answer-none)

pub functions_at-requires-clause-kind : goal.functions_at-requires-clause-kind
functions_at-requires-clause-kind c =
    grind (arith, answering-kept)

pub returns-in-Ok-clause-answer : goal.returns-in-Ok-clause-answer
returns-in-Ok-clause-answer c =
    let here = c.in-Some.unit.image.now in
    let unit = unit_in c.in-Some.unit in
    let file = c.image.ensures ∙ ap (λ (state : ContextState). state.file) c.self.view_is in
    let told = answer-told here c.image.result.now c.args.self.now.file unit c.args.a c.in-Some.ensures.image file c.in-Some.ensures.unit c.in-Ok.functions.items (rw (c.in-Ok.is) at c.in_ok-functions.ensures.functions) in
    rw (← told, ← c.deref.ensures.value) c.frames.ensures.answer

pub returns-in-Err-clause-answer : goal.returns-in-Err-clause-answer
returns-in-Err-clause-answer c =
    let here = c.in-Some.unit.image.now in
    let unit = unit_in c.in-Some.unit in
    let file = c.image.ensures ∙ ap (λ (state : ContextState). state.file) c.self.view_is in
    answer-fault here c.image.result.now c.args.self.now.file unit c.args.a c.in-Some.ensures.image file c.in-Some.ensures.unit c.in-Err.code c.offset.result c.offset.ensures (rw (c.in-Err.is) at c.in_ok-functions.ensures.functions)
