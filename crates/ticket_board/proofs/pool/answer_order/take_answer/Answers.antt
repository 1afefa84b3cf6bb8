use Rattle.std.proofs.Common.{◌≡◌, ◌∷◌, [], ap, ◌∙◌, length, map, arith}
use Rattle.std.proofs.lemmas.List.{nil_from_length, map-append, length-map}
use Rattle.ticket_board.proofs.PoolLemmas.{turned, not_empty}
use Rattle.ticket_board.proofs.pool.answer_order.take_answer.Goals as goal

pub unreachable-requires-in_default-pop_front : goal.unreachable-requires-in_default-pop_front
unreachable-requires-in_default-pop_front g c =
    let task = c.args.task.now in
    let lanes' = map (λ lane. lane.items) c.pop_front.new.self.items in
    let none = nil_from_length c.in-Some.lane.items (omega (arith, c.in-Some.lane.ok, c.in_default-pop_front.ensures.cases)) in
    not_empty g.S.Solver.shown g.S.Solver.meaning task.key.now task.shape.senders c.args.i task.queries.asked.now
    (map (λ lane. lane.items) c.args.lanes.now.items) lanes' c.requires.within
    (ap (map (λ lane. lane.items)) c.in-Some.ensures.items ∙ ap (λ lane. lane ∷ lanes') none) c.requires.lanes

pub returns-clause-lanes : goal.returns-clause-lanes
returns-clause-lanes g c =
    let task = c.args.task.now in
    let lanes = map (λ lane. lane.items) c.args.lanes.now.items in
    let lanes' = map (λ lane. lane.items) c.pop_front.new.self.items in
    let rest = c.pop_front-2.new.self.items in
    let many : length c.args.lanes.now.items ≡ task.shape.senders = omega (arith, c.args.lanes.now.ok, c.requires.senders) in
    (turned g.S.Solver.shown g.S.Solver.meaning task.key.now task.shape.senders c.args.i task.queries.asked.now
    lanes lanes' (map (λ lane. lane.items) c.push_back_reserved.new.self.items) rest c.in-Some-pop_front.answer
    c.requires.within (length-map c.args.lanes.now.items (λ lane. lane.items) ∙ many)
    (ap (map (λ lane. lane.items)) c.in-Some.ensures.items ∙ ap (λ lane. lane ∷ lanes') c.in-Some-pop_front.ensures.items)
    (ap (map (λ lane. lane.items)) c.push_back_reserved.ensures.items ∙ map-append (λ lane. lane.items) c.pop_front.new.self.items (c.pop_front-2.new.self ∷ []))
    c.requires.lanes).1
