use Rattle.std.proofs.Common.{◌≡◌, ◌+◌, ◌≤◌}
use Rattle.std.specs.Vec.{vec_len, vec_capacity}
use Rattle.std.specs.Vec.Iter.{into_iter_items, into_iter_len}
use Rattle.ticket_board.specs.Pool.{EachFrom, MaySend, IsPromised}
use Rattle.ticket_board.proofs.pool.senders.start_senders.Given as goal

abbrev pub invariant-loop-client : goal.invariant-loop-client
invariant-loop-client g l = record {
  count : vec_len l.threads + into_iter_len l.client-iterator ≡ vec_len l.fn.clients;
  room : vec_len l.fn.clients ≤ vec_capacity l.threads;
  left : EachFrom (MaySend l.pool.board l.pool.task) (vec_len l.threads) (into_iter_items l.client-iterator);
  promised : EachFrom (λ sender thread. IsPromised l.pool.task sender thread.promise) 0 l.threads.items;
}
