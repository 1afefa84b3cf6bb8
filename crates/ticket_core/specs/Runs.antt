-- Runs of a core: lists of events, one after the other.
use Rattle.std.specs.Prelude.{◌≡◌, ℕ, ◌+◌, ◌<◌, ◌≤◌, ◌↔◌, Bool, true, false, ◌&&◌, List, [], ◌∷◌, length, Option}
use Rattle.std.specs.Prelude.{Some, None, nat_eq, if◌then◌else◌}
use Rattle.ticket_core.specs.declared.shape.Shape.{Shape}
use Rattle.ticket_core.specs.State.{Meaning, Place, Unasked, Held, Answered, Collected, Sender, Ticket, State}
use Rattle.ticket_core.specs.State.{sender_at, hand_at, place_of, query_of, answer_of, opening}
use Rattle.ticket_core.specs.Events.{Event, Finish, Can, after}

-- the events lead from one state to another: each can happen where it does
abbrev pub Run : Meaning → State → List Event → State → Type 0
Run meaning old [] new = new ≡ old
Run meaning old (event ∷ events) new = Can event old × Run meaning (after meaning event old) events new

-- the events lead to the state from the opening one of this shape and key
abbrev pub Reaches : Meaning → Shape → List ℕ → List Event → State → Type 0
Reaches meaning shape key events state = Run meaning (opening shape key) events state

-- what a sender received is no longer than what it asked, and each answer is the meaning of the
-- query asked at its number
abbrev pub IsRight : Meaning → List ℕ → Sender → Type 0
IsRight meaning key sender =
    (length sender.received ≤ length sender.asked)
    × ((n : ℕ) → n < length sender.received → answer_of sender n ≡ meaning key (query_of sender n))

-- ---- how often a number is finished

-- a hand holds this number
abbrev pub is_ticket : Option Ticket → ℕ → ℕ → Bool
is_ticket None s n = false
is_ticket (Some ticket) s n = nat_eq ticket.0 s && nat_eq ticket.1 n

-- a finish finishes what the worker's hand holds then
abbrev pub finishes : Event → State → ℕ → ℕ → Bool
finishes (Finish w) state s n = is_ticket (hand_at state w) s n
finishes _ state s n = false

-- how many of the events finish the number
abbrev pub times_finished : Meaning → State → List Event → ℕ → ℕ → ℕ
times_finished meaning state [] s n = 0
times_finished meaning state (event ∷ events) s n =
    (if finishes event state s n then 1 else 0) + times_finished meaning (after meaning event state) events s n

-- answered or received
abbrev pub is_finished : Place → Bool
is_finished (Answered answer) = true
is_finished Collected = true
is_finished _ = false

-- once for a number that is answered or received, never for every other
abbrev pub once_finished : Place → ℕ
once_finished place = if is_finished place then 1 else 0

-- ---- hands and places

-- a worker holds a number exactly where that number's place says so
abbrev pub HandsAgree : State → Type 0
HandsAgree state =
    (w s n : ℕ) → (hand_at state w ≡ Some (s, n)) ↔ (place_of (sender_at state s) n ≡ Held w)

-- numbers below the next one are received, and numbers that weren't asked have no place
abbrev pub PlacesAgree : Sender → Type 0
PlacesAgree sender =
    (n : ℕ) → ((place_of sender n ≡ Collected) ↔ (n < length sender.received))
    × ((place_of sender n ≡ Unasked) ↔ (length sender.asked ≤ n))

-- ---- the end

-- closed, with all that was asked received
abbrev pub HasEnded : Sender → Type 0
HasEnded sender = (sender.closed ≡ true) × (length sender.received ≡ length sender.asked)
