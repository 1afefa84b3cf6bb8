-- The calls of a core, from the contracts of its lanes: `now` is the state that contracts see.
use Rattle.std.proofs.Common.{◌≡◌, ℕ, ◌<◌, false, List, length, get_or, set, Option, None, Result, Ok, Err, MatchResult, OnOk, OnErr, IfErr, arith}
use Rattle.std.proofs.lemmas.List.{length-map}
use Rattle.ticket_core.specs.declared.shape.Shape.{Shape}
use Rattle.ticket_core.specs.declared.fault.CoreFault.{CoreFault}
use Rattle.ticket_core.specs.declared.lane.Lane.{Lane}
use Rattle.ticket_core.specs.declared.query.Query.{Query}
use Rattle.ticket_core.specs.State.{Shown, Meaning, Sender, Ticket, State, sender_at, outstanding}
use Rattle.ticket_core.specs.Events.{Event, Ask, Collect, Close, asks, collects, closes, Step}
use Rattle.ticket_core.specs.Refusals.{refusal, ask_refusal, collect_refusal, RefusesOrMemory, Refuses}
use Rattle.ticket_core.specs.Sound.{IsSound}
use Rattle.ticket_core.specs.Shown.{sender_shown, state_shown}
use Rattle.ticket_core.proofs.CoreLemmas.{ask-can, collect-can, lane-sender, lane-same, lane-changed, event-sound, call-sound}

module _ {A : Type 0} (shown : A → Shown) (meaning : Meaning) (shape : Shape) (key : List ℕ) (lanes : List (Lane A)) (hands : List (Option Ticket))
    (now : State) (is : state_shown shown shape key lanes hands ≡ now) (sound : IsSound meaning (state_shown shown shape key lanes hands))
    (s : ℕ) (placed : s < now.shape.senders) (lane new : Lane A) (read : lane ≡ get_or lanes s lane) where
  abbrev old : State
  old = state_shown shown shape key lanes hands

  abbrev later : State
  later = state_shown shown shape key (set lanes s new) hands

  -- what the lane's contracts say: how it changed, that it stayed, and where it refuses the call
  abbrev Changes : {T : Type 0} → Result T CoreFault → (Sender → Sender) → Type 0
  Changes result change = OnOk result ((f : A → Shown) → sender_shown f new ≡ change (sender_shown f lane))

  abbrev Keeps : {T : Type 0} → Result T CoreFault → Type 0
  Keeps result = OnErr result ((f : A → Shown) → sender_shown f new ≡ sender_shown f lane)

  abbrev RefusesBy : Result ℕ CoreFault → (CoreFault → Option CoreFault → Type 0) → (Sender → Option CoreFault) → Type 0
  RefusesBy result refuses refused =
      (f : A → Shown) → MatchResult result (λ _. refused (sender_shown f lane) ≡ None) (λ fault. refuses fault (refused (sender_shown f lane)))

  shaped : s < shape.senders
  shaped = grind arith

  there : s < length lanes
  there = omega (arith, shaped, sound.senders, length-map lanes (sender_shown shown))

  sender-is : sender_at old s ≡ sender_shown shown lane
  sender-is = lane-sender shown meaning shape key lanes hands s lane there read

  pub kept : {T : Type 0} (result : Result T CoreFault) → Keeps result → OnErr result (later ≡ now)
  kept (Ok x) same = tt
  kept (Err fault) same = rw (← is) (lane-same shown meaning shape key lanes hands s lane new there read (same shown))

  -- after an event, or with nothing changed
  sound-after : {T : Type 0} (event : Event) (result : Result T CoreFault) → OnOk result (Step meaning event now later) → Keeps result → IsSound meaning later
  sound-after event result step same = call-sound meaning event now later result (rw (← is) sound) step (kept result same)

  -- ---- ask

  pub ask-event : (query : Query) (result : Result ℕ CoreFault) → Changes result (asks query) → RefusesBy result RefusesOrMemory (ask_refusal shape)
      → OnOk result (Step meaning (Ask s query) now later)
  ask-event query (Ok n) asked refused =
      let can : ((sender_shown shown lane).closed ≡ false) × (length (sender_shown shown lane).asked < shape.most) × (outstanding (sender_shown shown lane) < shape.window) =
      ask-can shape (sender_shown shown lane) (refused shown) in
      let e : sender_at old s ≡ sender_shown shown lane = sender-is in
      rw (← is) ((shaped, rw e can.0, rw e can.1, rw e can.2), lane-changed shown meaning shape key lanes hands s lane new (asks query) there read (asked shown))
  ask-event query (Err fault) asked refused = tt

  pub ask-refused : (query : Query) (result : Result ℕ CoreFault) → RefusesBy result RefusesOrMemory (ask_refusal shape)
      → IfErr result (λ fault. RefusesOrMemory fault (refusal (Ask s query) now))
  ask-refused query (Ok n) refused = tt
  ask-refused query (Err fault) refused = rw (← is) (rw sender-is (refused shown))

  pub ask-sound : (query : Query) (result : Result ℕ CoreFault) → Changes result (asks query) → Keeps result
      → RefusesBy result RefusesOrMemory (ask_refusal shape) → IsSound meaning later
  ask-sound query result asked same refused = sound-after (Ask s query) result (ask-event query result asked refused) same

  -- ---- collect

  pub collect-event : (result : Result ℕ CoreFault) → Changes result collects → RefusesBy result Refuses collect_refusal
      → OnOk result (Step meaning (Collect s) now later)
  collect-event (Ok n) collected refused =
      let e : sender_at old s ≡ sender_shown shown lane = sender-is in
      rw (← is) (rw e (collect-can (sender_shown shown lane) (refused shown)), lane-changed shown meaning shape key lanes hands s lane new collects there read (collected shown))
  collect-event (Err fault) collected refused = tt

  pub collect-refused : (result : Result ℕ CoreFault) → RefusesBy result Refuses collect_refusal → IfErr result (λ fault. Refuses fault (refusal (Collect s) now))
  collect-refused (Ok n) refused = tt
  collect-refused (Err fault) refused = rw (← is) (rw sender-is (refused shown))

  pub collect-sound : (result : Result ℕ CoreFault) → Changes result collects → Keeps result → RefusesBy result Refuses collect_refusal → IsSound meaning later
  collect-sound result collected same refused = sound-after (Collect s) result (collect-event result collected refused) same

  -- ---- close

  pub close-event : ((f : A → Shown) → sender_shown f new ≡ closes (sender_shown f lane)) → Step meaning (Close s) now later
  close-event closed = rw (← is) (shaped, lane-changed shown meaning shape key lanes hands s lane new closes there read (closed shown))

  pub close-sound : ((f : A → Shown) → sender_shown f new ≡ closes (sender_shown f lane)) → IsSound meaning later
  close-sound closed = event-sound meaning (Close s) now later (rw (← is) sound) (close-event closed)
