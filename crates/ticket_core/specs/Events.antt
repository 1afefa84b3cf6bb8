-- What can happen to a core: six kinds of event, each with its condition and the state after it.
use Rattle.std.specs.Prelude.{◌≡◌, ℕ, ◌<◌, true, false, [], ◌∷◌, ◌++◌, length, slice_set, Option, Some, None, IsSome}
use base.Stored.{gnil}
use Rattle.ticket_core.specs.declared.query.Query.{Query}
use Rattle.ticket_core.specs.State.{Shown, Meaning, Place, Waiting, Held, Answered, Collected, Sender, Ticket, State}
use Rattle.ticket_core.specs.State.{sender_at, hand_at, place_of, query_of, next_of, outstanding}

pub data Event : Type 0 where
  -- a sender asks a query
  Ask : (s : ℕ) (query : Query) → Event
  -- a worker takes a number that waits, whichever it is
  Take : (w s n : ℕ) → Event
  -- a worker answers the number in its hand
  Finish : (w : ℕ) → Event
  -- a worker gives the number in its hand back: it waits again
  GiveBack : (w : ℕ) → Event
  -- a sender receives the answer of its next number
  Collect : (s : ℕ) → Event
  -- a sender asks no more
  Close : (s : ℕ) → Event

-- ---- one sender, changed

-- it asked one query more, whose number waits
abbrev pub asks : Query → Sender → Sender
asks query sender = record {
  asked = sender.asked ++ query ∷ [];
  received = sender.received;
  closed = sender.closed;
  places = sender.places ++ Waiting ∷ [];
}

-- one number gets another place
abbrev pub puts : ℕ → Place → Sender → Sender
puts n place sender = record {
  asked = sender.asked;
  received = sender.received;
  closed = sender.closed;
  places = slice_set sender.places n place;
}

-- the answer that a place has
abbrev pub answer_in : Place → Shown
answer_in (Answered answer) = answer
answer_in _ = gnil

-- it is answered
abbrev pub IsAnswered : Place → Type 0
IsAnswered (Answered answer) = Unit {0}
IsAnswered _ = ⊥

-- the answer of the next number joins what was received
abbrev pub collects : Sender → Sender
collects sender = record {
  asked = sender.asked;
  received = sender.received ++ answer_in (place_of sender (next_of sender)) ∷ [];
  closed = sender.closed;
  places = slice_set sender.places (next_of sender) Collected;
}

-- it is closed
abbrev pub closes : Sender → Sender
closes sender = record {
  asked = sender.asked;
  received = sender.received;
  closed = true;
  places = sender.places;
}

-- ---- the state, with one sender or one hand changed

-- this is the sender s
abbrev pub with_sender : ℕ → Sender → State → State
with_sender s sender state = record {
  shape = state.shape;
  key = state.key;
  senders = slice_set state.senders s sender;
  hands = state.hands;
}

-- this is in the hand w
abbrev pub with_hand : ℕ → Option Ticket → State → State
with_hand w hand state = record {
  shape = state.shape;
  key = state.key;
  senders = state.senders;
  hands = slice_set state.hands w hand;
}

-- the ticket in a hand that isn't empty
abbrev pub ticket_in : Option Ticket → Ticket
ticket_in (Some ticket) = ticket
ticket_in None = (0, 0)

-- the meaning of the query that was asked
abbrev pub meaning_of : Meaning → State → Ticket → Shown
meaning_of meaning state ticket = meaning state.key (query_of (sender_at state ticket.0) ticket.1)

-- a worker takes a ticket into its hand
abbrev pub picks_up : ℕ → Ticket → State → State
picks_up w ticket state =
    with_hand w (Some ticket)
    (with_sender ticket.0 (puts ticket.1 (Held w) (sender_at state ticket.0)) state)

-- the worker's hand is empty then, and its ticket is at this place
abbrev pub puts_down : ℕ → Ticket → Place → State → State
puts_down w ticket place state =
    with_hand w None
    (with_sender ticket.0 (puts ticket.1 place (sender_at state ticket.0)) state)

-- ---- events

-- when an event can happen: asking, as long as the sender is open, may ask more in all and has room
-- in its window; taking, by an empty hand, of a number that waits; finishing and giving back, by a
-- hand that isn't empty; collecting, where the next number is answered; closing, always
abbrev pub Can : Event → State → Type 0
Can (Ask s query) state =
    (s < state.shape.senders) × ((sender_at state s).closed ≡ false)
    × (length (sender_at state s).asked < state.shape.most)
    × (outstanding (sender_at state s) < state.shape.window)
Can (Take w s n) state =
    (w < state.shape.workers) × (hand_at state w ≡ None) × (place_of (sender_at state s) n ≡ Waiting)
Can (Finish w) state = IsSome (hand_at state w)
Can (GiveBack w) state = IsSome (hand_at state w)
Can (Collect s) state = IsAnswered (place_of (sender_at state s) (next_of (sender_at state s)))
Can (Close s) state = s < state.shape.senders

-- the state after it
abbrev pub after : Meaning → Event → State → State
after meaning (Ask s query) state = with_sender s (asks query (sender_at state s)) state
after meaning (Take w s n) state = picks_up w (s, n) state
after meaning (Finish w) state =
    puts_down w (ticket_in (hand_at state w))
    (Answered (meaning_of meaning state (ticket_in (hand_at state w)))) state
after meaning (GiveBack w) state = puts_down w (ticket_in (hand_at state w)) Waiting state
after meaning (Collect s) state = with_sender s (collects (sender_at state s)) state
after meaning (Close s) state = with_sender s (closes (sender_at state s)) state

-- the event could happen, and led from the one state to the other
abbrev pub Step : Meaning → Event → State → State → Type 0
Step meaning event old new = Can event old × (new ≡ after meaning event old)
