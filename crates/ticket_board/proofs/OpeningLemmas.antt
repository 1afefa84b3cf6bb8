-- The clients and workers of a board that was just opened are its own.
use Rattle.std.proofs.Common.{◌≡◌, ℕ, zero, suc, false, List, map, refl, sym, subst}
use Rattle.std.specs.List.{AllByRecursion}
use Rattle.ticket_board.specs.Ring.Ends.{RingState}
use Rattle.ticket_board.specs.Ring.Takers.{TakerState, HasEmptyHand}
use Rattle.ticket_board.specs.Ring.Opened.{new_takers, askers_from, takers_from}
use Rattle.ticket_board.specs.Seats.{ClientState, WorkerState, client_shown, worker_shown, new_clients, new_workers, IsClientOf, IsWorkerOf}

clients-of : (board : RingState) (s n : ℕ) → AllByRecursion (IsClientOf board) (map (client_shown false) (askers_from board s n))
clients-of board s zero = tt
clients-of board s (suc n) = (record { shape_is = refl; key_is = refl; table_is = refl }, clients-of board (suc s) n)

pub all_clients : (board : RingState) (clients : List ClientState) → clients ≡ new_clients board → AllByRecursion (IsClientOf board) clients
all_clients board clients is = subst (AllByRecursion (IsClientOf board)) (sym is) (clients-of board 0 board.shape.senders)

workers-of : (board : RingState) (w n : ℕ) → AllByRecursion (IsWorkerOf board) (map worker_shown (takers_from board w n))
workers-of board w zero = tt
workers-of board w (suc n) = (record { shape_is = refl; key_is = refl; table_is = refl }, workers-of board (suc w) n)

pub all_workers : (board : RingState) (workers : List WorkerState) → workers ≡ new_workers board → AllByRecursion (IsWorkerOf board) workers
all_workers board workers is = subst (AllByRecursion (IsWorkerOf board)) (sym is) (workers-of board 0 board.shape.workers)

empty-hands : (board : RingState) (w n : ℕ) → AllByRecursion HasEmptyHand (takers_from board w n)
empty-hands board w zero = tt
empty-hands board w (suc n) = (refl, empty-hands board (suc w) n)

pub all_empty : (board : RingState) (takers : List TakerState) → takers ≡ new_takers board → AllByRecursion HasEmptyHand takers
all_empty board takers is = subst (AllByRecursion HasEmptyHand) (sym is) (empty-hands board 0 board.shape.workers)
