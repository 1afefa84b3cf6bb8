use Rattle.std.proofs.Common.{◌≡◌, ◌∷◌, [], ap, ◌∙◌, length, map, arith}
use Rattle.std.specs.VecDeque.{deque_len}
use Rattle.std.specs.Vec.Iter.{into_iter_items}
use Rattle.std.proofs.lemmas.List.{map-append, length-map}
use Rattle.ticket_board.specs.Pool.{IsLaneOf, IsPromised}
use Rattle.ticket_board.proofs.PoolLemmas.{each_from_end, each_from_next, each_from_none, each_from_same, kept_lane}
use Rattle.ticket_board.proofs.pool.senders.join_senders.Goals as goal

pub loop-thread-init : goal.loop-thread-init
loop-thread-init g c =
    let all = c.into_iter-thread-iterator.ensures.into_iter_gives in
    let none : length c.args.room.items ≡ 0 = omega (arith, c.args.room.ok, c.requires.room.0) in
    record {
      room = omega (arith, all.1, c.requires.room);
      count = λ going. omega (arith, all.1, c.requires.room);
      left = λ going. each_from_same (λ sender thread. IsPromised c.args.task.now sender thread.promise) 0 _ c.args.threads.items _ c.requires.promised c.requires.room.0 all.0;
      lanes =
          λ going. each_from_none (IsLaneOf g.S.Solver.shown g.S.Solver.meaning c.args.task.now)
          (map (λ lane. lane.items) c.args.room.items) (length-map c.args.room.items (λ lane. lane.items) ∙ none);
    }

pub loop-thread-preserved-in-Ok : goal.loop-thread-preserved-in-Ok
loop-thread-preserved-in-Ok g c =
    let i = c.loop-thread.invariant in
    let task = c.args.task.now in
    let lanes = c.loop-thread.lanes in
    let pushed = c.push_back_reserved in
    let step = c.in-Some.ensures.steps in
    let many : length lanes.items ≡ deque_len lanes = omega (arith, lanes.ok) in
    record {
      room = omega (arith, i.room, step.1, pushed.ensures.len, pushed.ensures.capacity);
      count = λ going. omega (arith, i.count going, step.1, pushed.ensures.len);
      left =
          λ going. (each_from_next (λ sender thread. IsPromised task sender thread.promise) (deque_len lanes) (deque_len pushed.new.self)
          (into_iter_items c.loop-thread.thread-iterator) (into_iter_items c.next.new.self) c.in-Some.thread (i.left going) step.0 pushed.ensures.len).1;
      lanes =
          λ going.
          let mine = (each_from_next (λ sender thread. IsPromised task sender thread.promise) (deque_len lanes) (deque_len pushed.new.self)
          (into_iter_items c.loop-thread.thread-iterator) (into_iter_items c.next.new.self) c.in-Some.thread (i.left going) step.0 pushed.ensures.len).0 in
          each_from_end (IsLaneOf g.S.Solver.shown g.S.Solver.meaning task)
          (map (λ lane. lane.items) lanes.items) (map (λ lane. lane.items) pushed.new.self.items) c.in-Ok.lane.items (deque_len lanes) (i.lanes going)
          (ap (map (λ lane. lane.items)) pushed.ensures.items ∙ map-append (λ lane. lane.items) lanes.items (c.in-Ok.lane ∷ []))
          (omega (arith, many, length-map lanes.items (λ lane. lane.items)))
          (kept_lane g.S.Solver.shown g.S.Solver.meaning task (deque_len lanes) c.in-Some.thread.promise c.in-Ok.lane.items mine c.in-Ok.ensures);
    }
