use Rattle.std.proofs.Common.{◌≡◌, ℕ, ◌<◌, List, length, get_or, IfOk, sym, ◌∙◌, ap, subst, arith}
use Rattle.std.proofs.lemmas.List.{get_or_default}
use Rattle.ticket_core.specs.declared.query.Query.{Query}
use Rattle.ticket_core.specs.declared.query.QueryKind.TheVariants.{Address}
use Rattle.ticket_core.specs.State.{sender_at, query_of}
use Rattle.ticket_core.proofs.CallerLemmas.{held-sender, held-asked}
use Rattle.board_tests.proofs.core_desk.answer.Goals as goal

pub asked-requires-clause-sender : goal.asked-requires-clause-sender
asked-requires-clause-sender g c κs within = held-sender g.S.Solver.meaning c.args.core.now c.law_of_state.ensures.sound c.args.worker c.args.sender c.args.number c.requires.held

pub offset_bounds-asked-number : goal.offset_bounds-asked-number
offset_bounds-asked-number g c =
    let asked : c.args.number < length (sender_at c.args.core.now c.args.sender).asked =
    held-asked g.S.Solver.meaning c.args.core.now c.law_of_state.ensures.sound c.args.worker c.args.sender c.args.number c.requires.held in
    omega (arith, asked, ap length c.asked.ensures, c.asked.type_inv.1)

pub bounds-asked-number : goal.bounds-asked-number
bounds-asked-number g c =
    let asked : c.args.number < length (sender_at c.args.core.now c.args.sender).asked =
    held-asked g.S.Solver.meaning c.args.core.now c.law_of_state.ensures.sound c.args.worker c.args.sender c.args.number c.requires.held in
    omega (arith, asked, ap length c.asked.ensures)

pub returns-clause-right : goal.returns-clause-right
returns-clause-right g c =
    let sender = sender_at c.args.core.now c.args.sender in
    let within : c.args.number < length sender.asked =
    held-asked g.S.Solver.meaning c.args.core.now c.law_of_state.ensures.sound c.args.worker c.args.sender c.args.number c.requires.held in
    let query : c.index-asked-number.result ≡ query_of sender c.args.number =
    c.index-asked-number.is ∙ ap (λ (queries : List Query). get_or queries c.args.number c.index-asked-number.result) c.asked.ensures
    ∙ sym (get_or_default sender.asked c.args.number (Address 0) c.index-asked-number.result within) in
    subst (λ (x : List ℕ × Query). IfOk c.solve.result (λ answer. g.S.Solver.shown answer ≡ g.S.Solver.meaning x.0 x.1))
    (λ i. (c.requires.key i, query i)) c.solve.ensures.right
