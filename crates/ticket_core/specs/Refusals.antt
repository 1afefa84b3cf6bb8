-- Why an event is refused: the first condition that fails, in the order in which they are tested.
use Rattle.std.specs.Prelude.{◌≡◌, ◌<◌, Bool, true, false, ◌&&◌, length, Option, Some, None, nat_eq, nat_le}
use Rattle.std.specs.Prelude.{if◌then◌else◌, MatchOption}
use Rattle.ticket_core.specs.declared.fault.CoreFault.{CoreFault}
use Rattle.ticket_core.specs.declared.fault.CoreFault.TheVariants.{Full, Closed, Exhausted, NotAsked, HandFull}
use Rattle.ticket_core.specs.declared.fault.CoreFault.TheVariants.{HandEmpty, NotReady, Ended, Memory}
use Rattle.ticket_core.specs.declared.shape.Shape.{Shape}
use Rattle.ticket_core.specs.State.{Place, Waiting, Answered, Sender, Ticket, State, sender_at, hand_at, place_of}
use Rattle.ticket_core.specs.State.{next_of, outstanding}
use Rattle.ticket_core.specs.Events.{Event, Ask, Take, Finish, GiveBack, Collect, Close}

-- a hand holds nothing
abbrev pub is_empty : Option Ticket → Bool
is_empty None = true
is_empty (Some ticket) = false

-- a number waits for a worker
abbrev pub is_waiting : Place → Bool
is_waiting Waiting = true
is_waiting _ = false

-- a number is answered
abbrev pub is_answered : Place → Bool
is_answered (Answered answer) = true
is_answered _ = false

-- closed, and everything that was asked is received
abbrev pub has_ended : Sender → Bool
has_ended sender = sender.closed && nat_eq (length sender.received) (length sender.asked)

-- a closed sender comes first, then one that asked all it may, then a full window
abbrev pub ask_refusal : Shape → Sender → Option CoreFault
ask_refusal shape sender =
    if sender.closed then Some Closed
    else if nat_le shape.most (length sender.asked) then Some Exhausted
    else if nat_le shape.window (outstanding sender) then Some Full
    else None

-- a full hand comes before a number that doesn't wait
abbrev pub take_refusal : Option Ticket → Place → Option CoreFault
take_refusal (Some ticket) place = Some HandFull
take_refusal None place = if is_waiting place then None else Some NotAsked

-- finishing and giving back need a number in the hand
abbrev pub hand_refusal : Option Ticket → Option CoreFault
hand_refusal hand = if is_empty hand then Some HandEmpty else None

-- the end comes before an answer that isn't there yet
abbrev pub collect_refusal : Sender → Option CoreFault
collect_refusal sender =
    if has_ended sender then Some Ended
    else if is_answered (place_of sender (next_of sender)) then None
    else Some NotReady

-- the first condition of the event that fails, where one does
abbrev pub refusal : Event → State → Option CoreFault
refusal (Ask s query) state = ask_refusal state.shape (sender_at state s)
refusal (Take w s n) state = take_refusal (hand_at state w) (place_of (sender_at state s) n)
refusal (Finish w) state = hand_refusal (hand_at state w)
refusal (GiveBack w) state = hand_refusal (hand_at state w)
refusal (Collect s) state = collect_refusal (sender_at state s)
refusal (Close s) state = None

-- the event names a sender and a worker of the shape
abbrev pub IsOfShape : Event → State → Type 0
IsOfShape (Ask s query) state = s < state.shape.senders
IsOfShape (Take w s n) state = (w < state.shape.workers) × (s < state.shape.senders)
IsOfShape (Finish w) state = w < state.shape.workers
IsOfShape (GiveBack w) state = w < state.shape.workers
IsOfShape (Collect s) state = s < state.shape.senders
IsOfShape (Close s) state = s < state.shape.senders

-- a call is refused with just that condition, and not where there is none
abbrev pub Refuses : CoreFault → Option CoreFault → Type 0
Refuses fault refused = refused ≡ Some fault

-- the same of a call that takes memory, which may be out of memory where no condition fails
abbrev pub RefusesOrMemory : CoreFault → Option CoreFault → Type 0
RefusesOrMemory fault refused = MatchOption refused (fault ≡ Memory) (λ told. fault ≡ told)
