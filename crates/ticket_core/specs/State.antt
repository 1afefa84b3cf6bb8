-- The state of a core: who asked what, who received what, and where each query is.
use Rattle.std.specs.Prelude.{ℕ, ◌-◌, Bool, false, List, [], length, replicate, slice_index_or, Option, None}
use base.Stored.{Gv, gnil}
use Rattle.ticket_core.specs.declared.query.Query.{Query}
use Rattle.ticket_core.specs.declared.query.QueryKind.TheVariants.{Address}
use Rattle.ticket_core.specs.declared.shape.Shape.{Shape}

-- what an answer shows: a tree of numbers, in which a text is its bytes
abbrev pub Shown : Type 0
Shown = Gv

-- what a query means under a key
abbrev pub Meaning : Type 0
Meaning = List ℕ → Query → Shown

-- where one number of a sender is: it is outstanding while it waits, is held or is answered
pub data Place : Type 0 where
  Unasked : Place
  Waiting : Place
  Held : (worker : ℕ) → Place
  Answered : (answer : Shown) → Place
  Collected : Place

-- a sender: the queries that it asked and the answers that it received, both by number, whether it
-- is closed, and the place of each number that it asked
pub record Sender : Type 0 where
  pub asked : List Query
  pub received : List Shown
  pub closed : Bool
  pub places : List Place

-- a query by its sender and its number
abbrev pub Ticket : Type 0
Ticket = ℕ × ℕ

-- the whole core: each sender, and each worker's hand
pub record State : Type 0 where
  pub shape : Shape
  pub key : List ℕ
  pub senders : List Sender
  pub hands : List (Option Ticket)

-- ---- reading a state. What isn't there is a sender that asked nothing, a number that wasn't
-- asked, an empty hand

abbrev pub fresh : Sender
fresh = record { asked = []; received = []; closed = false; places = [] }

abbrev pub sender_at : State → ℕ → Sender
sender_at state s = slice_index_or state.senders s fresh

abbrev pub hand_at : State → ℕ → Option Ticket
hand_at state w = slice_index_or state.hands w None

abbrev pub place_of : Sender → ℕ → Place
place_of sender n = slice_index_or sender.places n Unasked

abbrev pub query_of : Sender → ℕ → Query
query_of sender n = slice_index_or sender.asked n (Address 0)

abbrev pub answer_of : Sender → ℕ → Shown
answer_of sender n = slice_index_or sender.received n gnil

-- the next number that the sender receives
abbrev pub next_of : Sender → ℕ
next_of sender = length sender.received

-- how many numbers were asked and not yet received
abbrev pub outstanding : Sender → ℕ
outstanding sender = length sender.asked - length sender.received

-- ---- the opening state: nobody has asked anything

abbrev pub opening : Shape → List ℕ → State
opening shape key = record {
  shape = shape;
  key = key;
  senders = replicate shape.senders fresh;
  hands = replicate shape.workers None;
}
