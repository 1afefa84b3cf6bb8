-- What is read of a state in which one sender or one hand is changed, told by cases.
use Rattle.std.proofs.Common.{◌≡◌, ℕ, ◌<◌, length, Option, Some, None, subst, arith}
use Rattle.ticket_core.specs.State.{Place, Unasked, Answered, Sender, fresh, Ticket, State, sender_at, hand_at, place_of, next_of}
use Rattle.ticket_core.specs.Events.{puts, with_sender, with_hand, IsAnswered, answer_in}
use Rattle.ticket_core.proofs.ReadLemmas.{replaced, inside}

-- a place of a sender
abbrev pub place_at : State → ℕ → ℕ → Place
place_at state s n = place_of (sender_at state s) n

pub sender_changed : (state : State) (s : ℕ) (sender : Sender) (t : ℕ) (P : Sender → Type 0) → s < length state.senders
    → (t ≡ s → P sender) → ((t ≡ s → ⊥) → P (sender_at state t)) → P (sender_at (with_sender s sender state) t)
sender_changed state s sender t P h here other = replaced state.senders s sender fresh t P h here other

pub hand_changed : (state : State) (w : ℕ) (hand : Option Ticket) (v : ℕ) (P : Option Ticket → Type 0) → w < length state.hands
    → (v ≡ w → P hand) → ((v ≡ w → ⊥) → P (hand_at state v)) → P (hand_at (with_hand w hand state) v)
hand_changed state w hand v P h here other = replaced state.hands w hand None v P h here other

-- a sender that has a place for a number is there
pub sender_there : (state : State) (s n : ℕ) → (place_at state s n ≡ Unasked → ⊥) → s < length state.senders
sender_there state s n h = grind (arith, inside)

-- a hand that isn't empty is there
pub hand_there : (state : State) (w : ℕ) (ticket : Ticket) → hand_at state w ≡ Some ticket → w < length state.hands
hand_there state w ticket e = grind (arith, inside)

-- the next number of a sender is answered
abbrev pub NextAnswered : State → ℕ → Type 0
NextAnswered state s =
    place_of (sender_at state s) (next_of (sender_at state s))
    ≡ Answered (answer_in (place_of (sender_at state s) (next_of (sender_at state s))))

pub next-answered : (state : State) (s : ℕ) → IsAnswered (place_of (sender_at state s) (next_of (sender_at state s))) → NextAnswered state s
next-answered state s h = grind arith

-- one place changed
pub place_changed : (state : State) (s n : ℕ) (place : Place) (t m : ℕ) (P : Place → Type 0) → (place_at state s n ≡ Unasked → ⊥)
    → (t ≡ s → m ≡ n → P place) → ((t ≡ s → m ≡ n → ⊥) → P (place_at state t m))
    → P (place_at (with_sender s (puts n place (sender_at state s)) state) t m)
place_changed state s n place t m P there here other =
    let inside_s : s < length state.senders = sender_there state s n there in
    let inside_n : n < length (sender_at state s).places = inside (sender_at state s).places n Unasked there in
    sender_changed state s (puts n place (sender_at state s)) t (λ sender. P (place_of sender m)) inside_s
    (λ e. replaced (sender_at state s).places n place Unasked m P inside_n
    (λ f. here e f)
    (λ ne. let old : P (place_at state t m) = other (λ _ f. ne f) in subst (λ (x : ℕ). P (place_at state x m)) e old))
    (λ ne. other (λ e _. ne e))
