-- What holds after every list of events.
use Rattle.std.proofs.Common.{◌≡◌, ℕ, ◌+◌, ◌≤◌, List, [], ◌∷◌, length, refl, ap, arith}
use Rattle.std.proofs.lemmas.Bool.{cases_lt}
use Rattle.std.proofs.lemmas.List.{get_or_past}
use Rattle.ticket_core.specs.declared.shape.Shape.{Shape}
use Rattle.ticket_core.specs.State.{Meaning, Sender, State, sender_at, outstanding, opening}
use Rattle.ticket_core.specs.Events.{Event, after}
use Rattle.ticket_core.specs.Runs.{Run, Reaches, IsRight, times_finished, once_finished, HandsAgree, PlacesAgree, HasEnded}
use Rattle.ticket_core.specs.Sound.{IsSoundSender, IsSound}
use Rattle.ticket_core.proofs.StateLemmas.{place_at}
use Rattle.ticket_core.proofs.StepLemmas.{step-sound, opening-sound, opening-place}
use Rattle.ticket_core.proofs.CountLemmas.{step-counted}
use Rattle.ticket_core.proofs.EndLemmas.{step-ended}

module _ (meaning : Meaning) where
  -- no event changes the shape or the key
  abbrev AreAlike : State → State → Type 0
  AreAlike new old = (new.shape ≡ old.shape) × (new.key ≡ old.key)

  event-alike : (event : Event) (state : State) → AreAlike (after meaning event state) state
  event-alike event state = grind arith

  run-alike : (events : List Event) (old new : State) → Run meaning old events new → AreAlike new old
  run-alike [] old new r = (ap (λ x. x.shape) r, ap (λ x. x.key) r)
  run-alike (event ∷ events) old new r =
      grind (arith, event-alike, run-alike events (after meaning event old) new r.1)

  pub run-sound : (events : List Event) (old new : State) → IsSound meaning old → Run meaning old events new → IsSound meaning new
  run-sound [] old new sound r = rw r sound
  run-sound (event ∷ events) old new sound r = run-sound events (after meaning event old) new (step-sound meaning event old sound r.0) r.1

  pub run-counted : (events : List Event) (old new : State) (s n : ℕ) → IsSound meaning old → Run meaning old events new
      → times_finished meaning old events s n + once_finished (place_at old s n) ≡ once_finished (place_at new s n)
  run-counted [] old new s n sound r = rw r (omega arith)
  run-counted (event ∷ events) old new s n sound r =
      grind (
        arith,
        place_at,
        step-sound,
        step-counted,
        run-counted events (after meaning event old) new s n (step-sound meaning event old sound r.0) r.1,
      )

  pub run-ended : (events : List Event) (old new : State) (s : ℕ) → IsSound meaning old → HasEnded (sender_at old s) → Run meaning old events new
      → sender_at new s ≡ sender_at old s
  run-ended [] old new s sound ended r = ap (λ state. sender_at state s) r
  run-ended (event ∷ events) old new s sound ended r =
      grind (
        arith,
        step-ended,
        step-sound,
        run-ended events (after meaning event old) new s (step-sound meaning event old sound r.0),
      )

  -- ---- from the opening state

  pub reached-sound : (shape : Shape) (key : List ℕ) (events : List Event) (state : State) → Reaches meaning shape key events state → IsSound meaning state
  reached-sound shape key events state r = run-sound events (opening shape key) state (opening-sound meaning shape key) r

  pub reached-right : (shape : Shape) (key : List ℕ) (events : List Event) (state : State) → Reaches meaning shape key events state
      → (s : ℕ) → IsRight meaning key (sender_at state s)
  reached-right shape key events state r s = grind (arith, run-alike, reached-sound)

  pub reached-counted : (shape : Shape) (key : List ℕ) (events : List Event) (state : State) → Reaches meaning shape key events state
      → (s n : ℕ) → times_finished meaning (opening shape key) events s n ≡ once_finished (place_at state s n)
  reached-counted shape key events state r s n =
      let none : once_finished (place_at (opening shape key) s n) ≡ 0 = rw (opening-place meaning shape key s n) refl in
      omega (arith, run-counted events (opening shape key) state s n (opening-sound meaning shape key) r, none)

  pub hands-agree : (state : State) → IsSound meaning state → HandsAgree state
  hands-agree state sound w s n = (sound.held w s n, sound.in_hand w s n)

  pub places-agree : (key : List ℕ) (sender : Sender) → IsSoundSender meaning key sender → PlacesAgree sender
  places-agree key sender sound n = grind (arith, cases_lt, get_or_past)

  pub reached-limits : (shape : Shape) (key : List ℕ) (events : List Event) (state : State) → Reaches meaning shape key events state
      → (s : ℕ) → (length (sender_at state s).asked ≤ shape.most) × (outstanding (sender_at state s) ≤ shape.window)
  reached-limits shape key events state r s = grind (arith, run-alike, reached-sound)
