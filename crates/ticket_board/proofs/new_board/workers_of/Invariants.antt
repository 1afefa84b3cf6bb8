use Rattle.std.proofs.Common.{◌≡◌, ◌+◌, ◌≤◌, ◌++◌, map}
use Rattle.std.specs.List.{AllByRecursion}
use Rattle.std.specs.Vec.{vec_len, vec_capacity}
use Rattle.std.specs.Vec.Iter.{into_iter_items, into_iter_len}
use Rattle.ticket_board.specs.Ring.Takers.{HasEmptyHand}
use Rattle.ticket_board.specs.Seats.{worker_shown}
use Rattle.ticket_board.proofs.new_board.workers_of.Given as goal

abbrev pub invariant-loop-taker : goal.invariant-loop-taker
invariant-loop-taker g l = record {
  room : vec_len l.workers + into_iter_len l.taker-iterator ≤ vec_capacity l.workers;
  empty : AllByRecursion HasEmptyHand (into_iter_items l.taker-iterator);
  made : l.workers.items ++ map worker_shown (into_iter_items l.taker-iterator) ≡ map worker_shown l.fn.takers.items;
}
