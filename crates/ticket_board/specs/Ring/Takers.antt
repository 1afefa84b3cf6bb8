-- What a worker's end of the ring shows.
use Rattle.std.specs.Prelude.{◌≡◌, ℕ, ◌+◌, ◌*◌, ◌^◌, ◌<◌, ◌≤◌, List, [], ◌∷◌, ◌++◌, length, Option}
use Rattle.std.specs.Prelude.{Some, None, IsSome}
use Rattle.std.specs.List.{Contains}
use Rattle.atomic_table.specs.Table as table
use Rattle.atomic_table.specs.Seated.{TableId}
use Rattle.ticket_core.specs.declared.query.Query.{Query}
use Rattle.ticket_core.specs.declared.shape.Shape.{Shape}
use Rattle.ticket_core.specs.Shape.{Fits}
use Rattle.ticket_core.specs.State.{Shown, Meaning, Ticket}
use Rattle.ticket_board.specs.Ring.Layout.{cell_of, cells_in}
use Rattle.ticket_board.specs.Ring.Views.{Nothing, Whole, Working, Stamped, working_of}
use Rattle.ticket_board.specs.Ring.Moves.{Occurs}
use Rattle.ticket_board.specs.Ring.Laws.{WorkOccurs}
use Rattle.ticket_board.specs.Ring.Rule.{IsWorker, worker_of}
use Rattle.ticket_board.specs.Ring.Ends.{RingState}

-- a worker's end: whose it is, of which table, and what its seat knows
pub record TakerState : Type 0 where
  pub shape : Shape
  pub key : List ℕ
  pub table : TableId
  pub worker : ℕ
  pub working : Working

-- it was opened with this ring
pub record IsTakerOf (ring : RingState) (taker : TakerState) : Type 0 where
  pub shape_is : taker.shape ≡ ring.shape
  pub key_is : taker.key ≡ ring.key
  pub table_is : taker.table ≡ ring.table

-- some moves make a ring on which it knows this, and what it has done is what its own of them
-- answered
abbrev pub TakerOccurs : Meaning → TakerState → Type 0
TakerOccurs meaning it = WorkOccurs meaning it.shape it.key it.worker it.working

-- it holds no number
abbrev pub HasEmptyHand : TakerState → Type 0
HasEmptyHand taker = taker.working.hand ≡ None

-- it knows this, and is whose it was
abbrev pub knowing : Working → TakerState → TakerState
knowing working taker = record taker { working = working }

-- ---- what it knows after it looked for a query

-- it is the same worker, and has answered and given back what it had
pub record HasSought (old new : TakerState) : Type 0 where
  pub same : new ≡ knowing new.working old
  pub done : new.working.done ≡ old.working.done
  pub returned : new.working.returned ≡ old.working.returned

-- its hand holds this number of this sender, whose query it read
abbrev pub HoldsRead : ℕ × ℕ × Query → Working → Type 0
HoldsRead found working = (working.hand ≡ Some (found.0, found.1)) × (working.read ≡ Whole found.2)

-- this answer is the meaning of the query that it read
abbrev pub IsMeaning : {A : Type 0} → (A → Shown) → Meaning → A → TakerState → Type 0
IsMeaning shown meaning answer taker =
    (query : Query) × (taker.working.read ≡ Whole query) × (shown answer ≡ meaning taker.key query)
    × IsSome taker.working.hand

-- the number in its hand is answered, or given back
abbrev pub answers_one : Ticket → Working → Working
answers_one ticket working = record working { hand = None; read = Nothing; done = working.done ++ ticket ∷ [] }

abbrev pub gives_one : Ticket → Working → Working
gives_one ticket working = record working {
  hand = None;
  read = Nothing;
  returned = working.returned ++ ticket ∷ [];
}

-- its hand is empty, and each of these cells, which are so many, gave it nothing since, and did so
-- once
pub record MissedEach (count : ℕ) (cells : ℕ → Type 0) (old new : Working) : Type 0 where
  pub empty : new.hand ≡ None
  pub gained : List ℕ
  pub missed : new.missed ≡ old.missed ++ gained
  pub once : length gained ≡ count
  pub each : (cell : ℕ) → cells cell → Contains gained cell

-- every cell of the ring did
abbrev pub MissedAll : Shape → Working → Working → Type 0
MissedAll shape old new = MissedEach (cells_in shape) (λ cell. cell < cells_in shape) old new

-- the cells from one on and below another
abbrev pub Between : ℕ → ℕ → ℕ → Type 0
Between from to cell = (from ≤ cell) × (cell < to)

-- ---- what its fields show

-- the number's state words fit
abbrev pub IsTicketOf : Shape → Option Ticket → Type 0
IsTicketOf shape None = Unit {0}
IsTicketOf shape (Some ticket) = (ticket.0 < shape.senders) × (8 * ticket.1 + 8 ≤ 2 ^ 64)

module _ {A : Type 0} where
  -- the slot of the number in the hand is out with the seat, and empty
  abbrev pub slots_of : Shape → Option Ticket → List (ℕ × Option A)
  slots_of shape None = []
  slots_of shape (Some ticket) = (cell_of shape ticket.0 ticket.1, None) ∷ []

  abbrev pub taker_shown : TableId → table.Me (Option A) Stamped → TakerState
  taker_shown table me = record {
    shape = me.0.view.shape;
    key = me.0.view.key;
    table = table;
    worker = worker_of me.0.view.role;
    working = working_of me.0.view.role;
  }

  -- its fields are what its seat knows
  pub record IsTaker (meaning : Meaning) (hand : Option Ticket) (shape : Shape) (me : table.Me (Option A) Stamped)
      : Type 0 where
    pub works : IsWorker me.0.view.role
    pub shape_is : me.0.view.shape ≡ shape
    pub fits : Fits shape
    pub hand_is : (working_of me.0.view.role).hand ≡ hand
    pub ticket : IsTicketOf shape hand
    pub carries : me.1 ≡ slots_of shape hand
    pub occurs : Occurs meaning me.0.view
