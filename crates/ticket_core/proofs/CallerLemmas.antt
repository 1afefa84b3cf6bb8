-- What a caller that knows a core's hands can use.
use Rattle.std.proofs.Common.{◌≡◌, ℕ, ◌<◌, List, length, get_or, Option, Some, arith}
use Rattle.std.proofs.lemmas.List.{get_or_default}
use Rattle.ticket_core.specs.declared.shape.Shape.{Shape}
use Rattle.ticket_core.specs.State.{Meaning, Unasked, Held, Ticket, State, sender_at, hand_at}
use Rattle.ticket_core.specs.Sound.{IsSound}
use Rattle.ticket_core.proofs.ReadLemmas.{inside}
use Rattle.ticket_core.proofs.StateLemmas.{place_at, sender_there}

module _ (meaning : Meaning) (state : State) (sound : IsSound meaning state) (w s n : ℕ) (holds : hand_at state w ≡ Some (s, n)) where
  held-place : place_at state s n ≡ Unasked → ⊥
  held-place none = let e : place_at state s n ≡ Held w = sound.held w s n holds in cc

  -- what a worker holds is a sender's
  pub held-sender : s < state.shape.senders
  held-sender = let h : s < length state.senders = sender_there state s n held-place in omega (arith, h, sound.senders)

  -- and was asked
  pub held-asked : n < length (sender_at state s).asked
  held-asked = grind (arith, inside, held-place)

-- what a list that has the hands says of one
pub held-read : (meaning : Meaning) (state : State) → IsSound meaning state → (shape : Shape) → state.shape ≡ shape
    → (hands : List (Option Ticket)) → state.hands ≡ hands → (w : ℕ) → w < shape.workers
    → (found : Option Ticket) → found ≡ get_or hands w found → (ticket : Ticket) → found ≡ Some ticket → hand_at state w ≡ Some ticket
held-read meaning state sound shape e hands same w h found read ticket is = grind (arith, get_or_default)
