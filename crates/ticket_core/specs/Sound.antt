-- What holds of each state that a run reaches.
use Rattle.std.specs.Prelude.{◌≡◌, ℕ, ◌+◌, ◌<◌, ◌≤◌, List, length, Some}
use Rattle.ticket_core.specs.State.{Meaning, Shown, Unasked, Held, Answered, Collected, Sender, State, sender_at}
use Rattle.ticket_core.specs.State.{hand_at, place_of, query_of, answer_of}

-- of one sender
pub record IsSoundSender (meaning : Meaning) (key : List ℕ) (sender : Sender) : Type 0 where
  -- each asked number has a place
  pub placed : length sender.places ≡ length sender.asked
  pub has_place : (n : ℕ) → n < length sender.asked → place_of sender n ≡ Unasked → ⊥
  -- no more is received than was asked, each the meaning of its query
  pub within : length sender.received ≤ length sender.asked
  pub right : (n : ℕ) → n < length sender.received → answer_of sender n ≡ meaning key (query_of sender n)
  -- what was received is exactly the numbers below the next one
  pub collected : (n : ℕ) → n < length sender.received → place_of sender n ≡ Collected
  pub collected_only : (n : ℕ) → place_of sender n ≡ Collected → n < length sender.received
  -- an answer that waits to be received is the meaning of its query
  pub answered : (n : ℕ) (answer : Shown) → place_of sender n ≡ Answered answer
      → answer ≡ meaning key (query_of sender n)

pub record IsSound (meaning : Meaning) (state : State) : Type 0 where
  -- there are as many senders and hands as the shape says
  pub senders : length state.senders ≡ state.shape.senders
  pub workers : length state.hands ≡ state.shape.workers
  pub each : (s : ℕ) → IsSoundSender meaning state.key (sender_at state s)
  -- no sender has more outstanding than the window, or asks more than the most
  pub window : (s : ℕ) → length (sender_at state s).asked ≤ length (sender_at state s).received + state.shape.window
  pub most : (s : ℕ) → length (sender_at state s).asked ≤ state.shape.most
  -- a number is in a hand exactly where its place says so
  pub held : (w s n : ℕ) → hand_at state w ≡ Some (s, n) → place_of (sender_at state s) n ≡ Held w
  pub in_hand : (w s n : ℕ) → place_of (sender_at state s) n ≡ Held w → hand_at state w ≡ Some (s, n)
