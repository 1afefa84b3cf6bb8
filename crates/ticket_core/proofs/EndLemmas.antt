-- A sender that has ended stays as it is.
use Rattle.std.proofs.Common.{◌≡◌, ℕ, ◌<◌, ◌⊎◌, inl, inr, true, List, length, Some, refl, sym, ◌∙◌, arith}
use Rattle.std.proofs.lemmas.Bool.{cases_lt}
use Rattle.std.proofs.lemmas.List.{get_or_past}
use Rattle.ticket_core.specs.State.{Meaning, Place, Unasked, Collected, Sender, State, sender_at, hand_at, place_of}
use Rattle.ticket_core.specs.Events.{Event, closes, puts, with_sender, Can, after}
use Rattle.ticket_core.specs.Runs.{HasEnded}
use Rattle.ticket_core.specs.Sound.{IsSoundSender, IsSound}
use Rattle.ticket_core.proofs.StateLemmas.{next-answered, place_at, sender_changed, sender_there}
use Rattle.ticket_core.proofs.StepLemmas.{some_ticket}

module _ (meaning : Meaning) where
  -- all its numbers are received
  settled : (key : List ℕ) (sender : Sender) (n : ℕ) → IsSoundSender meaning key sender → HasEnded sender
      → (place_of sender n ≡ Collected) ⊎ (place_of sender n ≡ Unasked)
  settled key sender n sound ended = grind (arith, cases_lt, get_or_past)

  -- a change of another sender
  other-kept : (state : State) (s : ℕ) (sender : Sender) (t : ℕ) → s < length state.senders → (t ≡ s → sender ≡ sender_at state t)
      → sender_at (with_sender s sender state) t ≡ sender_at state t
  other-kept state s sender t there here = sender_changed state s sender t (λ x. x ≡ sender_at state t) there here (λ _. refl)

  -- no number of an ended sender waits, is held or is answered
  unsettled-other : (state : State) (t s n : ℕ) (place : Place) → IsSound meaning state → HasEnded (sender_at state t) → place_at state s n ≡ place
      → (place ≡ Collected → ⊥) → (place ≡ Unasked → ⊥) → t ≡ s → ⊥
  unsettled-other state t s n place sound ended at not asked same =
      let ended2 : HasEnded (sender_at state s) = rw (← same) ended in
      elim (settled state.key (sender_at state s) n (sound.each s) ended2) [
        | inl e ↦ not (sym at ∙ e)
        | inr e ↦ asked (sym at ∙ e)
      ]

  closed_again : (sender : Sender) → sender.closed ≡ true → closes sender ≡ sender
  closed_again sender e = grind arith

  put_down-ended : (state : State) (w s n : ℕ) (place : Place) (t : ℕ) → IsSound meaning state → hand_at state w ≡ Some (s, n) → HasEnded (sender_at state t)
      → sender_at (with_sender s (puts n place (sender_at state s)) state) t ≡ sender_at state t
  put_down-ended state w s n place t sound holds ended =
      grind (arith, other-kept, sender_there, settled state.key (sender_at state s) n)

  pub step-ended : (event : Event) (state : State) (t : ℕ) → IsSound meaning state → Can event state → HasEnded (sender_at state t)
      → sender_at (after meaning event state) t ≡ sender_at state t
  step-ended event state t sound can ended =
      grind (
        arith,
        other-kept,
        sender_there,
        place_at,
        unsettled-other,
        put_down-ended,
        some_ticket,
        next-answered,
        closed_again,
      )
