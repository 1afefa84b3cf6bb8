-- What a client and a worker of a board show.
use Rattle.std.specs.Prelude.{◌≡◌, ℕ, ◌-◌, Bool, true, false, List, [], ◌∷◌, ◌++◌, length, map, Option, Some}
use Rattle.std.specs.Prelude.{None, nat_le, if◌then◌else◌}
use Rattle.atomic_table.specs.Seated.{TableId}
use Rattle.ticket_core.specs.declared.query.Query.{Query}
use Rattle.ticket_core.specs.declared.shape.Shape.{Shape}
use Rattle.ticket_core.specs.State.{Shown, Meaning, Ticket}
use Rattle.ticket_board.specs.declared.fault.AskFault.{AskFault}
use Rattle.ticket_board.specs.declared.fault.AskFault.TheVariants.{Full, Closed, Exhausted}
use Rattle.ticket_board.specs.Ring.Views.{Asking, Working, asker}
use Rattle.ticket_board.specs.Ring.Moves.{Occurs}
use Rattle.ticket_board.specs.Ring.Laws.{WorkOccurs}
use Rattle.ticket_board.specs.Ring.Ends.{RingState, AskerState}
use Rattle.ticket_board.specs.Ring.Takers.{TakerState}
use Rattle.ticket_board.specs.Ring.Opened.{new_askers, new_takers}

-- ---- clients

-- whose client it is: the board's shape, key and ring, and the sender
pub record ClientSeat : Type 0 where
  pub shape : Shape
  pub key : List ℕ
  pub table : TableId
  pub sender : ℕ

-- a client: what it asked and what it received, both by number, whether it is closed, whether the
-- next number was found answered, and the numbers that weren't when it looked
pub record ClientState : Type 0 where
  pub seat : ClientSeat
  pub asked : List Query
  pub received : List Shown
  pub closed : Bool
  pub found : Bool
  pub missed : List ℕ

-- how many numbers were asked and not yet received
abbrev pub outstanding : ClientState → ℕ
outstanding client = length client.asked - length client.received

-- it was opened with this board
pub record IsClientOf (board : RingState) (client : ClientState) : Type 0 where
  pub shape_is : client.seat.shape ≡ board.shape
  pub key_is : client.seat.key ≡ board.key
  pub table_is : client.seat.table ≡ board.table

-- what a sender's end shows as a client
abbrev pub client_shown : Bool → AskerState → ClientState
client_shown closed asker = record {
  seat = record { shape = asker.shape; key = asker.key; table = asker.table; sender = asker.sender };
  asked = asker.asking.asked;
  received = asker.asking.received;
  closed = closed;
  found = asker.asking.found;
  missed = asker.asking.missed;
}

-- the clients of a board that was just opened, by sender: nothing is asked, none is closed
abbrev pub new_clients : RingState → List ClientState
new_clients board = map (client_shown false) (new_askers board)

-- a query is asked
abbrev pub asks : Query → ClientState → ClientState
asks query client = record client { asked = client.asked ++ query ∷ [] }

-- nothing more is asked
abbrev pub closes : ClientState → ClientState
closes client = record client { closed = true }

-- it was seen whether the next number is answered
abbrev pub finds : Bool → ClientState → ClientState
finds found client = record client {
  found = found;
  missed = if found then client.missed else client.missed ++ length client.received ∷ [];
}

-- an answer is received
abbrev pub receives : Shown → ClientState → ClientState
receives answer client = record client { received = client.received ++ answer ∷ []; found = false }

-- the first condition that refuses a query: the client is closed, then it asked all it may, then
-- its window is full
abbrev pub ask_refusal : ClientState → Option AskFault
ask_refusal client =
    if client.closed then Some Closed
    else if nat_le client.seat.shape.most (length client.asked) then Some Exhausted
    else if nat_le client.seat.shape.window (outstanding client) then Some Full
    else None

-- closed, and all that was asked is received
abbrev pub HasEnded : ClientState → Type 0
HasEnded client = (client.closed ≡ true) × (length client.received ≡ length client.asked)

-- some moves make a ring on which a sender knows what it knows
abbrev pub ClientOccurs : Meaning → ClientState → Type 0
ClientOccurs meaning client =
    (asking : Asking) × Occurs meaning (asker client.seat.shape client.seat.key client.seat.sender asking)
    × (asking.asked ≡ client.asked) × (asking.received ≡ client.received)
    × (asking.found ≡ client.found) × (asking.missed ≡ client.missed)

-- ---- workers

-- whose worker it is: the board's shape, key and ring, and its number
pub record WorkerSeat : Type 0 where
  pub shape : Shape
  pub key : List ℕ
  pub table : TableId
  pub worker : ℕ

-- a worker: the number in its hand, the cells that gave it nothing when it looked or tried, what
-- it answered, and what it gave back
pub record WorkerState : Type 0 where
  pub seat : WorkerSeat
  pub hand : Option Ticket
  pub missed : List ℕ
  pub done : List Ticket
  pub returned : List Ticket

-- it was opened with this board
pub record IsWorkerOf (board : RingState) (worker : WorkerState) : Type 0 where
  pub shape_is : worker.seat.shape ≡ board.shape
  pub key_is : worker.seat.key ≡ board.key
  pub table_is : worker.seat.table ≡ board.table

-- what a worker's end shows as a worker
abbrev pub worker_shown : TakerState → WorkerState
worker_shown taker = record {
  seat = record { shape = taker.shape; key = taker.key; table = taker.table; worker = taker.worker };
  hand = taker.working.hand;
  missed = taker.working.missed;
  done = taker.working.done;
  returned = taker.working.returned;
}

-- some moves make a ring on which a worker knows what it knows, and what it has done is what its
-- own of them answered
abbrev pub WorkerOccurs : Meaning → WorkerState → Type 0
WorkerOccurs meaning worker =
    (working : Working) × WorkOccurs meaning worker.seat.shape worker.seat.key worker.seat.worker working
    × (working.hand ≡ worker.hand) × (working.missed ≡ worker.missed)
    × (working.done ≡ worker.done) × (working.returned ≡ worker.returned)

-- the workers of a board that was just opened, in order: their hands are empty, and nothing is done
abbrev pub new_workers : RingState → List WorkerState
new_workers board = map worker_shown (new_takers board)
