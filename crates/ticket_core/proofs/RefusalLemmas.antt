-- In a sound state an event can happen exactly where nothing refuses it.
use Rattle.std.proofs.Common.{◌≡◌, ℕ, ◌<◌, false, length, None, refl, arith, List}
use Rattle.std.proofs.lemmas.Bool.{lt-leb, ne_eqb}
use Rattle.ticket_core.specs.State.{Meaning, Answered, Sender, State, sender_at, place_of, next_of, outstanding}
use Rattle.ticket_core.specs.Events.{Event, Ask, Take, Finish, GiveBack, Collect, Close, Can, answer_in}
use Rattle.ticket_core.specs.Refusals.{refusal, IsOfShape, ask_refusal, has_ended}
use Rattle.ticket_core.specs.Sound.{IsSoundSender, IsSound}
use Rattle.ticket_core.proofs.ReadLemmas.{inside}
use Rattle.ticket_core.proofs.LaneLemmas.{and_false}
use Rattle.ticket_core.proofs.StateLemmas.{NextAnswered, next-answered}
use Rattle.ticket_core.proofs.CoreLemmas.{ask-can, collect-can}

ask-none : (state : State) (sender : Sender) → sender.closed ≡ false → length sender.asked < state.shape.most → outstanding sender < state.shape.window
    → ask_refusal state.shape sender ≡ None
ask-none state sender open_ most window = grind (arith, lt-leb)

-- an answered number isn't past what was asked
not_ended : (meaning : Meaning) (key : List ℕ) (sender : Sender) → IsSoundSender meaning key sender
    → place_of sender (next_of sender) ≡ Answered (answer_in (place_of sender (next_of sender))) → has_ended sender ≡ false
not_ended meaning key sender sound at = grind (arith, inside, ne_eqb, and_false)

module _ (meaning : Meaning) (state : State) (sound : IsSound meaning state) where
  pub can-unrefused : (event : Event) → Can event state → refusal event state ≡ None
  can-unrefused (Ask s a) can = ask-none state (sender_at state s) can.1 can.2 can.3
  can-unrefused (Take w s n) can = rw (can.1, can.2) refl
  can-unrefused (Finish w) can = grind arith
  can-unrefused (GiveBack w) can = grind arith
  can-unrefused (Collect s) can =
      let at : NextAnswered state s = next-answered state s can in
      rw (not_ended meaning state.key (sender_at state s) (sound.each s) at, at) refl
  can-unrefused (Close s) can = refl

  pub unrefused-can : (event : Event) → IsOfShape event state → refusal event state ≡ None → Can event state
  unrefused-can event h e = grind (arith, ask-can, collect-can)
