use Rattle.std.proofs.Common.{◌≡◌, arith, length, ◌∙◌}
use Rattle.std.specs.Vec.{vec_len}
use Rattle.std.specs.Vec.Iter.{into_iter_items}
use Rattle.ticket_board.specs.Pool.{MaySend, IsPromised}
use Rattle.ticket_board.proofs.PoolLemmas.{each_from_end, each_from_next}
use Rattle.ticket_board.proofs.pool.senders.start_senders.Goals as goal

pub loop-client-preserved : goal.loop-client-preserved
loop-client-preserved g c =
    let i = c.loop-client.invariant in
    let count : vec_len c.loop-client.threads ≡ length c.loop-client.threads.items = omega (arith, c.loop-client.threads.ok.0) in
    record {
      count = omega (arith, i.count, c.in-Some.ensures.steps, c.push_reserved.ensures.len);
      room = omega (arith, i.room, c.push_reserved.ensures.capacity);
      left =
          (each_from_next (MaySend c.args.pool.now.board c.args.pool.now.task) (vec_len c.loop-client.threads) (vec_len c.push_reserved.new.self)
          (into_iter_items c.loop-client.client-iterator) (into_iter_items c.next.new.self) c.in-Some.client i.left c.in-Some.ensures.steps.0 c.push_reserved.ensures.len).1;
      promised =
          each_from_end (λ sender thread. IsPromised c.args.pool.now.task sender thread.promise) c.loop-client.threads.items c.push_reserved.new.self.items
          c.in-Ok.thread (vec_len c.loop-client.threads) i.promised c.push_reserved.ensures.items count
          (c.in-Ok.ensures.0, c.in-Ok.ensures.1 ∙ c.len.ensures);
    }
