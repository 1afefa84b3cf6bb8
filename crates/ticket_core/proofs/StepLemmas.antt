-- Each event keeps what holds of a state.
use Rattle.std.proofs.Common.{◌≡◌, ℕ, ◌+◌, ◌<◌, ◌≤◌, List, [], ◌∷◌, ◌++◌, length, replicate, get_or, IsSome, Option, Some, None, refl, sym, ◌∙◌, ap, subst, arith}
use Rattle.std.proofs.lemmas.Bool.{cases_order}
use Rattle.std.proofs.lemmas.List.{length-append, length-set, length-replicate, get_or-replicate, get_or_past}
use Rattle.ticket_core.specs.declared.shape.Shape.{Shape}
use Rattle.ticket_core.specs.State.{Shown, Meaning, Place, Unasked, Waiting, Held, Answered, Collected, Sender, fresh, Ticket, State, sender_at, hand_at, place_of, next_of, opening}
use Rattle.ticket_core.specs.Events.{Event, Ask, Take, Finish, GiveBack, Collect, Close, asks, puts, collects, closes, answer_in, with_sender, with_hand, ticket_in, meaning_of, puts_down, Can, after}
use Rattle.ticket_core.specs.Sound.{IsSoundSender, IsSound}
use Rattle.ticket_core.proofs.ReadLemmas.{appended, replaced, inside}
use Rattle.ticket_core.proofs.SenderLemmas.{fresh-sound, asks-sound, puts-sound, collects-sound, closes-sound}
use Rattle.ticket_core.proofs.StateLemmas.{NextAnswered, next-answered, place_at, sender_changed, hand_changed, sender_there, hand_there, place_changed}

pub ticket_parts : (s n t m : ℕ) → ◌≡◌ {A = Option Ticket} (Some (s, n)) (Some (t, m)) → (s ≡ t) × (n ≡ m)
ticket_parts s n t m e = (ap (λ x. (ticket_in x).0) e, ap (λ x. (ticket_in x).1) e)

module _ (meaning : Meaning) where
  -- ---- a change of one sender that leaves hands, and the places of what is held, as they are

  pub with_sender-sound : (state : State) (s : ℕ) (sender : Sender) → IsSound meaning state → s < state.shape.senders
      → IsSoundSender meaning state.key sender
      → length sender.asked ≤ length sender.received + state.shape.window
      → length sender.asked ≤ state.shape.most
      → ((n w : ℕ) → place_of (sender_at state s) n ≡ Held w → place_of sender n ≡ Held w)
      → ((n w : ℕ) → place_of sender n ≡ Held w → place_of (sender_at state s) n ≡ Held w)
      → IsSound meaning (with_sender s sender state)
  with_sender-sound state s sender sound h sound_sender window most keeps only =
      let there : s < length state.senders = omega (arith, sound.senders) in
      record {
        senders = omega (arith, length-set state.senders s sender, sound.senders);
        workers = sound.workers;
        each = λ t. sender_changed state s sender t (IsSoundSender meaning state.key) there (λ _. sound_sender) (λ _. sound.each t);
        window = λ t. sender_changed state s sender t (λ x. length x.asked ≤ length x.received + state.shape.window) there (λ _. window) (λ _. sound.window t);
        most = λ t. sender_changed state s sender t (λ x. length x.asked ≤ state.shape.most) there (λ _. most) (λ _. sound.most t);
        held = λ w t n e. sender_changed state s sender t (λ x. place_of x n ≡ Held w) there
            (λ same. keeps n w (subst (λ (x : ℕ). place_at state x n ≡ Held w) same (sound.held w t n e)))
            (λ _. sound.held w t n e);
        in_hand = λ w t n. sender_changed state s sender t (λ x. place_of x n ≡ Held w → hand_at state w ≡ Some (t, n)) there
            (λ same e. sound.in_hand w t n (let old : place_at state s n ≡ Held w = only n w e in rw same old))
            (λ _ e. sound.in_hand w t n e);
      }

  -- ---- a number goes into a hand, or out of it

  -- the hand has no other number, and no other hand has this one
  moved-sound : (state : State) (w s n : ℕ) (place : Place) (hand : Option Ticket) → IsSound meaning state → w < length state.hands
      → (place_at state s n ≡ Unasked → ⊥) → IsSoundSender meaning state.key (puts n place (sender_at state s))
      → ((t m : ℕ) → hand_at state w ≡ Some (t, m) → (t ≡ s) × (m ≡ n)) → ((v : ℕ) → hand_at state v ≡ Some (s, n) → v ≡ w)
      → ((t m : ℕ) → hand ≡ Some (t, m) → (t ≡ s) × (m ≡ n) × (place ≡ Held w)) → ((v : ℕ) → place ≡ Held v → (v ≡ w) × (hand ≡ Some (s, n)))
      → IsSound meaning (with_hand w hand (with_sender s (puts n place (sender_at state s)) state))
  moved-sound state w s n place hand sound hand_is asked put only no_other holds held =
      let there : s < length state.senders = sender_there state s n asked in
      record {
        senders = omega (arith, length-set state.senders s (puts n place (sender_at state s)), sound.senders);
        workers = omega (arith, length-set state.hands w hand, sound.workers);
        each = λ t. sender_changed state s (puts n place (sender_at state s)) t (IsSoundSender meaning state.key) there (λ _. put) (λ _. sound.each t);
        window = λ t. sender_changed state s (puts n place (sender_at state s)) t (λ x. length x.asked ≤ length x.received + state.shape.window) there (λ _. sound.window s) (λ _. sound.window t);
        most = λ t. sender_changed state s (puts n place (sender_at state s)) t (λ x. length x.asked ≤ state.shape.most) there (λ _. sound.most s) (λ _. sound.most t);
        held = λ v t m. hand_changed state w hand v (λ x. x ≡ Some (t, m) → place_at (with_sender s (puts n place (sender_at state s)) state) t m ≡ Held v) hand_is
            (λ same e. let it : (t ≡ s) × (m ≡ n) × (place ≡ Held w) = holds t m e in
            place_changed state s n place t m (λ p. p ≡ Held v) asked (λ _ _. it.2 ∙ ap Held (sym same)) (λ ne. absurd (ne it.0 it.1)))
            (λ ne e. place_changed state s n place t m (λ p. p ≡ Held v) asked (λ ts ns. absurd (ne (no_other v (rw (← ts, ← ns) e)))) (λ _. sound.held v t m e));
        in_hand = λ v t m. place_changed state s n place t m (λ p. p ≡ Held v → hand_at (with_hand w hand state) v ≡ Some (t, m)) asked
            (λ ts ns e. hand_changed state w hand v (λ x. x ≡ Some (t, m)) hand_is (λ _. rw (ts, ns) (held v e).1) (λ ne. absurd (ne (held v e).0)))
            (λ ne e. hand_changed state w hand v (λ x. x ≡ Some (t, m)) hand_is
            (λ same. absurd (let old : hand_at state v ≡ Some (t, m) = sound.in_hand v t m e in
            let it : (t ≡ s) × (m ≡ n) = only t m (rw (← same) old) in ne it.0 it.1))
            (λ _. sound.in_hand v t m e));
      }

  -- what is put down isn't held, and is right where it is an answer
  put_down-sound : (state : State) (w s n : ℕ) (place : Place) → IsSound meaning state → hand_at state w ≡ Some (s, n)
      → (place ≡ Unasked → ⊥) → (place ≡ Collected → ⊥) → ((v : ℕ) → place ≡ Held v → ⊥)
      → ((answer : Shown) → place ≡ Answered answer → answer ≡ meaning_of meaning state (s, n))
      → IsSound meaning (puts_down w (s, n) place state)
  put_down-sound state w s n place sound holds asked2 not free right =
      let held : place_at state s n ≡ Held w = sound.held w s n holds in
      let asked : place_at state s n ≡ Unasked → ⊥ = λ e. cc in
      moved-sound state w s n place None sound (hand_there state w (s, n) holds) asked
      (puts-sound meaning state.key n place (sender_at state s) (sound.each s) asked (λ e. cc) asked2 not right)
      (λ t m e. let parts : (s ≡ t) × (n ≡ m) = ticket_parts s n t m (sym holds ∙ e) in (sym parts.0, sym parts.1))
      (λ v e. let held2 : place_at state s n ≡ Held v = sound.held v s n e in cc)
      (λ t m e. absurd (cc)) (λ v e. absurd (free v e))

  -- ---- each event, and the opening state

  pub some_ticket : (hand : Option Ticket) → IsSome hand → hand ≡ Some ((ticket_in hand).0, (ticket_in hand).1)
  some_ticket hand h = grind arith

  pub step-sound : (event : Event) (state : State) → IsSound meaning state → Can event state → IsSound meaning (after meaning event state)
  step-sound (Ask s query) state sound can =
      let longer : length ((sender_at state s).asked ++ query ∷ []) ≡ length (sender_at state s).asked + 1 = length-append (sender_at state s).asked (query ∷ []) in
      with_sender-sound state s (asks query (sender_at state s)) sound can.0 (asks-sound meaning state.key query (sender_at state s) (sound.each s))
      (let r : length (sender_at state s).received ≤ length (sender_at state s).asked = (sound.each s).within in omega (arith, longer, can.3))
      (omega (arith, longer, can.2))
      (λ n w e. appended (sender_at state s).places Waiting Unasked n (λ p. p ≡ Held w) (λ _. e)
      (λ at. absurd (let none : place_at state s n ≡ Unasked = get_or_past (sender_at state s).places n Unasked (omega arith) in cc))
      (λ past. absurd (let none : place_at state s n ≡ Unasked = get_or_past (sender_at state s).places n Unasked (omega arith) in cc)))
      (λ n w. appended (sender_at state s).places Waiting Unasked n (λ p. p ≡ Held w → place_at state s n ≡ Held w)
      (λ _ e. e) (λ _ e. absurd (cc)) (λ _ e. absurd (cc)))
  step-sound (Take w s n) state sound can =
      let waits : place_at state s n ≡ Waiting = can.2 in
      let empty : hand_at state w ≡ None = can.1 in
      let asked : place_at state s n ≡ Unasked → ⊥ = λ e. cc in
      moved-sound state w s n (Held w) (Some (s, n)) sound (omega (arith, can.0, sound.workers)) asked
      (puts-sound meaning state.key n (Held w) (sender_at state s) (sound.each s) asked (λ e. cc) (λ e. cc) (λ e. cc) (λ answer e. absurd (cc)))
      (λ t m e. absurd (cc)) (λ v e. absurd (let held : place_at state s n ≡ Held v = sound.held v s n e in cc))
      (λ t m e. let parts : (s ≡ t) × (n ≡ m) = ticket_parts s n t m e in (sym parts.0, sym parts.1, refl))
      (λ v e. (let same : Held w ≡ Held v = e in cc, refl))
  step-sound (Finish w) state sound can =
      put_down-sound state w (ticket_in (hand_at state w)).0 (ticket_in (hand_at state w)).1 (Answered (meaning_of meaning state (ticket_in (hand_at state w)))) sound
      (some_ticket (hand_at state w) can) (λ e. cc) (λ e. cc) (λ v e. cc) (λ answer e. sym (ap answer_in e))
  step-sound (GiveBack w) state sound can =
      put_down-sound state w (ticket_in (hand_at state w)).0 (ticket_in (hand_at state w)).1 Waiting sound
      (some_ticket (hand_at state w) can) (λ e. cc) (λ e. cc) (λ v e. cc) (λ answer e. absurd (cc))
  step-sound (Collect s) state sound can =
      let answered : NextAnswered state s = next-answered state s can in
      let was : place_at state s (next_of (sender_at state s)) ≡ Unasked → ⊥ = λ e. cc in
      let there : s < length state.senders = sender_there state s (next_of (sender_at state s)) was in
      let within : next_of (sender_at state s) < length (sender_at state s).places = inside (sender_at state s).places (next_of (sender_at state s)) Unasked was in
      let longer : length (collects (sender_at state s)).received ≡ length (sender_at state s).received + 1 = length-append (sender_at state s).received (answer_in (place_of (sender_at state s) (next_of (sender_at state s))) ∷ []) in
      with_sender-sound state s (collects (sender_at state s)) sound (omega (arith, sound.senders))
      (collects-sound meaning state.key (sender_at state s) (answer_in (place_of (sender_at state s) (next_of (sender_at state s)))) (sound.each s) answered)
      (omega (arith, longer, sound.window s))
      (sound.most s)
      (λ n w e. replaced (sender_at state s).places (next_of (sender_at state s)) Collected Unasked n (λ p. p ≡ Held w) within
      (λ at. absurd (let old : place_at state s (next_of (sender_at state s)) ≡ Held w = rw (← at) e in cc)) (λ _. e))
      (λ n w. replaced (sender_at state s).places (next_of (sender_at state s)) Collected Unasked n (λ p. p ≡ Held w → place_at state s n ≡ Held w) within
      (λ _ e. absurd (cc)) (λ _ e. e))
  step-sound (Close s) state sound can =
      with_sender-sound state s (closes (sender_at state s)) sound can (closes-sound meaning state.key (sender_at state s) (sound.each s))
      (sound.window s) (sound.most s) (λ n w e. e) (λ n w e. e)

  pub read_replicate : {A : Type 0} (n i : ℕ) (x : A) → get_or (replicate n x) i x ≡ x
  read_replicate n i x = grind (arith, cases_order, get_or_past, length-replicate, get_or-replicate)

  pub opening-sender : (shape : Shape) (key : List ℕ) (s : ℕ) → sender_at (opening shape key) s ≡ fresh
  opening-sender shape key s = read_replicate shape.senders s fresh

  pub opening-place : (shape : Shape) (key : List ℕ) (s n : ℕ) → place_at (opening shape key) s n ≡ Unasked
  opening-place shape key s n = search (arith, get_or_past, opening-sender)

  pub opening-hand : (shape : Shape) (key : List ℕ) (w : ℕ) → hand_at (opening shape key) w ≡ None
  opening-hand shape key w = read_replicate shape.workers w None

  pub opening-sound : (shape : Shape) (key : List ℕ) → IsSound meaning (opening shape key)
  opening-sound shape key = record {
    senders = length-replicate shape.senders fresh;
    workers = length-replicate shape.workers None;
    each = λ s. rw (opening-sender shape key s) (fresh-sound meaning key);
    window = λ s. rw (opening-sender shape key s) (omega arith);
    most = λ s. rw (opening-sender shape key s) (omega arith);
    held = λ w s n e. absurd (let none : hand_at (opening shape key) w ≡ None = opening-hand shape key w in cc);
    in_hand = λ w s n e. absurd (let none : place_at (opening shape key) s n ≡ Unasked = opening-place shape key s n in cc);
  }
