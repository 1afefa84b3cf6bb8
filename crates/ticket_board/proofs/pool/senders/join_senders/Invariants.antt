use Rattle.std.proofs.Common.{◌≡◌, ◌+◌, ◌≤◌, false, map}
use Rattle.std.specs.Vec.{vec_len}
use Rattle.std.specs.Vec.Iter.{into_iter_items, into_iter_len}
use Rattle.std.specs.VecDeque.{deque_len, deque_capacity}
use Rattle.ticket_board.specs.Pool.{EachFrom, AreLanesFrom, IsPromised}
use Rattle.ticket_board.proofs.pool.senders.join_senders.Given as goal

abbrev pub invariant-loop-thread : goal.invariant-loop-thread
invariant-loop-thread g l = record {
  room : deque_len l.lanes + into_iter_len l.thread-iterator ≤ deque_capacity l.lanes;
  count : l.refused ≡ false → deque_len l.lanes + into_iter_len l.thread-iterator ≡ vec_len l.fn.threads;
  left : l.refused ≡ false → EachFrom (λ sender thread. IsPromised l.task sender thread.promise) (deque_len l.lanes) (into_iter_items l.thread-iterator);
  lanes : l.refused ≡ false → AreLanesFrom g.S.Solver.shown g.S.Solver.meaning l.task 0 (map (λ lane. lane.items) l.lanes.items);
}
