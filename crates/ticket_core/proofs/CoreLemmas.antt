-- What a core shows after a call, from what its lanes and hands show.
use Rattle.std.proofs.Common.{◌≡◌, ℕ, ◌<◌, false, List, length, get_or, set, Option, None, Result, Ok, Err, OnOk, OnErr, arith}
use Rattle.std.proofs.lemmas.Bool.{leb-false}
use Rattle.std.proofs.lemmas.List.{map-set, set-get_or, get_or-map}
use Rattle.ticket_core.specs.declared.shape.Shape.{Shape}
use Rattle.ticket_core.specs.declared.fault.CoreFault.{CoreFault}
use Rattle.ticket_core.specs.declared.lane.Lane.{Lane}
use Rattle.ticket_core.specs.State.{Shown, Meaning, Sender, Ticket, State, sender_at, place_of, next_of, outstanding}
use Rattle.ticket_core.specs.Events.{Event, with_sender, Step, IsAnswered}
use Rattle.ticket_core.specs.Refusals.{ask_refusal, collect_refusal}
use Rattle.ticket_core.specs.Sound.{IsSound}
use Rattle.ticket_core.specs.Shown.{sender_shown, state_shown}
use Rattle.ticket_core.proofs.StepLemmas.{step-sound}

-- ---- where nothing refuses an event

pub ask-can : (shape : Shape) (sender : Sender) → ask_refusal shape sender ≡ None
    → (sender.closed ≡ false) × (length sender.asked < shape.most) × (outstanding sender < shape.window)
ask-can shape sender e = grind (arith, leb-false)

pub collect-can : (sender : Sender) → collect_refusal sender ≡ None → IsAnswered (place_of sender (next_of sender))
collect-can sender e = grind arith

-- ---- one lane changed, seen from the core

module _ {A : Type 0} (shown : A → Shown) (meaning : Meaning) (shape : Shape) (key : List ℕ) (lanes : List (Lane A)) (hands : List (Option Ticket)) where
  abbrev old : State
  old = state_shown shown shape key lanes hands

  abbrev with_lane : ℕ → Lane A → State
  with_lane s lane = state_shown shown shape key (set lanes s lane) hands

  -- the sender is what its lane shows
  pub lane-sender : (s : ℕ) (lane : Lane A) → s < length lanes → lane ≡ get_or lanes s lane → sender_at old s ≡ sender_shown shown lane
  lane-sender s lane h e = grind (arith, get_or-map)

  pub lane-set : (s : ℕ) (lane : Lane A) (sender : Sender) → sender_shown shown lane ≡ sender → with_lane s lane ≡ with_sender s sender old
  lane-set s lane sender e = grind (arith, map-set)

  -- nothing changed
  pub lane-same : (s : ℕ) (lane new : Lane A) → s < length lanes → lane ≡ get_or lanes s lane → sender_shown shown new ≡ sender_shown shown lane → with_lane s new ≡ old
  lane-same s lane new h e same = grind (arith, set-get_or, lane-sender, lane-set)

  -- the lane after a change of what it shows
  pub lane-changed : (s : ℕ) (lane new : Lane A) (change : Sender → Sender) → s < length lanes → lane ≡ get_or lanes s lane
      → sender_shown shown new ≡ change (sender_shown shown lane) → with_lane s new ≡ with_sender s (change (sender_at old s)) old
  lane-changed s lane new change h e changed = grind (arith, lane-set, lane-sender)

-- ---- what holds of a state holds after a call

pub event-sound : (meaning : Meaning) (event : Event) (old new : State) → IsSound meaning old → Step meaning event old new → IsSound meaning new
event-sound meaning event old new sound step = rw step.1 (step-sound meaning event old sound step.0)

-- after an event, or with nothing changed
pub call-sound : {T : Type 0} (meaning : Meaning) (event : Event) (old new : State) (result : Result T CoreFault) → IsSound meaning old
    → OnOk result (Step meaning event old new) → OnErr result (new ≡ old) → IsSound meaning new
call-sound meaning event old new (Ok x) sound step same = event-sound meaning event old new sound step
call-sound meaning event old new (Err fault) sound step same = rw same sound
