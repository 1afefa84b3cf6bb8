-- The calls of a core that fill or empty a hand, from the contracts of its lanes: `now` is the
-- state that contracts see.
use Rattle.std.proofs.Common.{◌≡◌, ℕ, ◌<◌, false, List, length, get_or, set, Option, Some, None, IfSome, refl, ◌∙◌, ap, arith}
use Rattle.std.proofs.lemmas.List.{length-map, get_or_default}
use Rattle.ticket_core.specs.declared.shape.Shape.{Shape}
use Rattle.ticket_core.specs.declared.fault.CoreFault.{CoreFault}
use Rattle.ticket_core.specs.declared.fault.CoreFault.TheVariants.{NotAsked}
use Rattle.ticket_core.specs.declared.lane.Lane.{Lane}
use Rattle.ticket_core.specs.State.{Shown, Meaning, Place, Waiting, Held, Answered, Ticket, State, sender_at, hand_at, place_of}
use Rattle.ticket_core.specs.Events.{Take, Finish, GiveBack, puts, with_hand, meaning_of, puts_down, Step}
use Rattle.ticket_core.specs.Refusals.{refusal, is_waiting, Refuses}
use Rattle.ticket_core.specs.Sound.{IsSound}
use Rattle.ticket_core.specs.Shown.{sender_shown, state_shown}
use Rattle.ticket_core.proofs.ReadLemmas.{inside}
use Rattle.ticket_core.proofs.StateLemmas.{place_at, sender_there}
use Rattle.ticket_core.proofs.CoreLemmas as core

module _ {A : Type 0} (shown : A → Shown) (meaning : Meaning) (shape : Shape) (key : List ℕ) (lanes : List (Lane A)) (hands : List (Option Ticket))
    (now : State) (is : state_shown shown shape key lanes hands ≡ now) (sound : IsSound meaning (state_shown shown shape key lanes hands))
    (w : ℕ) (placed : w < now.shape.workers) (found : Option Ticket) (read_hand : found ≡ get_or hands w found) where
  abbrev old : State
  old = state_shown shown shape key lanes hands

  abbrev later : ℕ → Lane A → Option Ticket → State
  later s new hand = state_shown shown shape key (set lanes s new) (set hands w hand)

  sound-now : IsSound meaning now
  sound-now = rw (← is) sound

  worker_there : w < length hands
  worker_there = grind arith

  -- what was read is what the hand holds
  hand-is : (hand : Option Ticket) → found ≡ hand → hand_at old w ≡ hand
  hand-is hand e = grind (arith, get_or_default, worker_there)

  -- ---- take

  module _ (empty : found ≡ None) (s n : ℕ) (sender_placed : s < now.shape.senders) (lane new : Lane A) (read : lane ≡ get_or lanes s lane) where
    there : s < length lanes
    there = grind (arith, length-map)

    pub take-event : ((f : A → Shown) → sender_shown f new ≡ puts n (Held w) (sender_shown f lane))
        → ((f : A → Shown) → place_of (sender_shown f lane) n ≡ Waiting) → Step meaning (Take w s n) now (later s new (Some (s, n)))
    take-event put waits =
        let e : sender_at old s ≡ sender_shown shown lane = core.lane-sender shown meaning shape key lanes hands s lane there read in
        let e2 : shape ≡ now.shape = ap (λ state. state.shape) is in
        let h : w < shape.workers = rw e2 placed in
        rw (← is) (
          (h, hand-is None empty, rw e (waits shown)),
          ap (with_hand w (Some (s, n))) (core.lane-changed shown meaning shape key lanes hands s lane new (puts n (Held w)) there read (put shown)),
        )

    pub take-sound : ((f : A → Shown) → sender_shown f new ≡ puts n (Held w) (sender_shown f lane))
        → ((f : A → Shown) → place_of (sender_shown f lane) n ≡ Waiting) → IsSound meaning (later s new (Some (s, n)))
    take-sound put waits = core.event-sound meaning (Take w s n) now (later s new (Some (s, n))) sound-now (take-event put waits)

    pub take-refused : (fault : CoreFault) → ((f : A → Shown) → (fault ≡ NotAsked) × (is_waiting (place_of (sender_shown f lane) n) ≡ false))
        → Refuses fault (refusal (Take w s n) now)
    take-refused fault refused =
        let e : sender_at old s ≡ sender_shown shown lane = core.lane-sender shown meaning shape key lanes hands s lane there read in
        let none : get_or hands w None ≡ None = hand-is None empty in
        let told : Refuses fault (refusal (Take w s n) old) = rw (none, e, (refused shown).1, (refused shown).0) refl in
        rw (← is) told

    pub take-kept : ((f : A → Shown) → sender_shown f new ≡ sender_shown f lane) → state_shown shown shape key (set lanes s new) hands ≡ now
    take-kept same = core.lane-same shown meaning shape key lanes hands s lane new there read (same shown) ∙ is

    pub take-kept-sound : ((f : A → Shown) → sender_shown f new ≡ sender_shown f lane) → IsSound meaning (state_shown shown shape key (set lanes s new) hands)
    take-kept-sound same = rw (core.lane-same shown meaning shape key lanes hands s lane new there read (same shown)) sound

  -- ---- finish and give_back: the worker holds a number

  module _ (s n : ℕ) (holds : found ≡ Some (s, n)) where
    held : place_at old s n ≡ Held w
    held = sound.held w s n (hand-is (Some (s, n)) holds)

    pub lane-there : s < length lanes
    lane-there = let h : s < length old.senders = sender_there old s n (let e : place_at old s n ≡ Held w = held in λ none. cc) in omega (arith, h, length-map lanes (sender_shown shown))

    module _ (lane new : Lane A) (read : lane ≡ get_or lanes s lane) where
      sender-is : sender_at old s ≡ sender_shown shown lane
      sender-is = core.lane-sender shown meaning shape key lanes hands s lane lane-there read

      pub slot-there : n < length lane.slots.items
      slot-there = grind (arith, place_at, held, sender-is, inside, length-map)

      put_down-is : (place : Place) → sender_shown shown new ≡ puts n place (sender_shown shown lane) → later s new None ≡ puts_down w (s, n) place old
      put_down-is place put =
          ap (with_hand w None) (core.lane-changed shown meaning shape key lanes hands s lane new (puts n place) lane-there read put)

      pub finish-event : (answer : A) → IfSome (hand_at now w) (λ ticket. shown answer ≡ meaning_of meaning now ticket)
          → ((f : A → Shown) → sender_shown f new ≡ puts n (Answered (f answer)) (sender_shown f lane)) → Step meaning (Finish w) now (later s new None)
      finish-event answer right put = grind (arith, hand-is, put_down-is)

      pub finish-sound : (answer : A) → IfSome (hand_at now w) (λ ticket. shown answer ≡ meaning_of meaning now ticket)
          → ((f : A → Shown) → sender_shown f new ≡ puts n (Answered (f answer)) (sender_shown f lane)) → IsSound meaning (later s new None)
      finish-sound answer right put = core.event-sound meaning (Finish w) now (later s new None) sound-now (finish-event answer right put)

      pub give_back-event : ((f : A → Shown) → sender_shown f new ≡ puts n Waiting (sender_shown f lane)) → Step meaning (GiveBack w) now (later s new None)
      give_back-event put = grind (arith, hand-is, put_down-is)

      pub give_back-sound : ((f : A → Shown) → sender_shown f new ≡ puts n Waiting (sender_shown f lane)) → IsSound meaning (later s new None)
      give_back-sound put = core.event-sound meaning (GiveBack w) now (later s new None) sound-now (give_back-event put)
