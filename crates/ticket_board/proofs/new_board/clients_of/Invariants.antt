use Rattle.std.proofs.Common.{◌≡◌, ◌+◌, ◌≤◌, ◌++◌, false, map}
use Rattle.std.specs.Vec.{vec_len, vec_capacity}
use Rattle.std.specs.Vec.Iter.{into_iter_items, into_iter_len}
use Rattle.ticket_board.specs.Seats.{client_shown}
use Rattle.ticket_board.proofs.new_board.clients_of.Given as goal

abbrev pub invariant-loop-asker : goal.invariant-loop-asker
invariant-loop-asker g l = record {
  room : vec_len l.clients + into_iter_len l.asker-iterator ≤ vec_capacity l.clients;
  made : l.clients.items ++ map (client_shown false) (into_iter_items l.asker-iterator) ≡ map (client_shown false) l.fn.askers.items;
}
