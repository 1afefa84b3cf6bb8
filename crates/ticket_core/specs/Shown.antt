-- What a core's own lanes, slots and hands show: the state that contracts speak of.
use Rattle.std.specs.Prelude.{ℕ, List, map, Option}
use Rattle.ticket_core.specs.declared.shape.Shape.{Shape}
use Rattle.ticket_core.specs.declared.lane.Slot.{Slot}
use Rattle.ticket_core.specs.declared.lane.Slot.TheVariants.{Open, Out, Filled, Spent}
use Rattle.ticket_core.specs.declared.lane.Lane.{Lane}
use Rattle.ticket_core.specs.State.{Shown, Place, Waiting, Held, Answered, Collected, Sender, Ticket, State}

abbrev pub place_shown : {A : Type 0} → (A → Shown) → Slot A → Place
place_shown shown Open = Waiting
place_shown shown (Out worker) = Held worker
place_shown shown (Filled answer) = Answered (shown answer)
place_shown shown Spent = Collected

abbrev pub sender_shown : {A : Type 0} → (A → Shown) → Lane A → Sender
sender_shown shown lane = record {
  asked = lane.asked.items;
  received = map shown lane.received.items;
  closed = lane.closed;
  places = map (place_shown shown) lane.slots.items;
}

abbrev pub state_shown : {A : Type 0} → (A → Shown) → Shape → List ℕ → List (Lane A) → List (Option Ticket) → State
state_shown shown shape key lanes hands = record {
  shape = shape;
  key = key;
  senders = map (sender_shown shown) lanes;
  hands = hands;
}
