-- How often a number is finished, and what an ended sender keeps.
use Rattle.std.proofs.Common.{◌≡◌, ℕ, ◌+◌, Bool, true, false, Option, Some, refl, eq-eqb, arith, if◌then◌else◌}
use Rattle.std.proofs.lemmas.Bool.{ne_eqb, cases_eq, cases_order}
use Rattle.std.proofs.lemmas.List.{get_or_past, get_or_push, get_or_append_left, length-append}
use Rattle.std.proofs.lemmas.List.{get_or-set_same, get_or-set_other}
use Rattle.ticket_core.specs.State.{Meaning, Place, Held, Ticket, State, sender_at, hand_at}
use Rattle.ticket_core.specs.Events.{Event, Ask, Take, Finish, GiveBack, Collect, Close, puts, with_sender, Can, after}
use Rattle.ticket_core.specs.Runs.{is_ticket, finishes, once_finished}
use Rattle.ticket_core.specs.Sound.{IsSound}
use Rattle.ticket_core.proofs.ReadLemmas.{inside}
use Rattle.ticket_core.proofs.StateLemmas.{next-answered, place_at, sender_there, place_changed}
use Rattle.ticket_core.proofs.StepLemmas.{some_ticket}

-- a hand's ticket is that of a number exactly where both say so
is_ticket-same : (hand : Option Ticket) (s n t m : ℕ) → hand ≡ Some (s, n) → t ≡ s → m ≡ n → is_ticket hand t m ≡ true
is_ticket-same hand s n t m e ts ns = grind (arith, eq-eqb)

is_ticket-other : (hand : Option Ticket) (s n t m : ℕ) → hand ≡ Some (s, n) → (t ≡ s → m ≡ n → ⊥) → is_ticket hand t m ≡ false
is_ticket-other hand s n t m e ne = grind (arith, cases_eq, ne_eqb, eq-eqb)

-- ---- the number of finishes, event by event

module _ (meaning : Meaning) where
  -- a number goes out of a hand, and counts one more where it is finished
  put_down-counted : (state : State) (w s n : ℕ) (place : Place) (t m : ℕ) → IsSound meaning state → hand_at state w ≡ Some (s, n)
      → (b : Bool) → (t ≡ s → m ≡ n → (if b then 1 else 0) ≡ once_finished place) → ((t ≡ s → m ≡ n → ⊥) → b ≡ false)
      → (if b then 1 else 0) + once_finished (place_at state t m) ≡ once_finished (place_at (with_sender s (puts n place (sender_at state s)) state) t m)
  put_down-counted state w s n place t m sound holds b here other =
      let held : place_at state s n ≡ Held w = sound.held w s n holds in
      place_changed state s n place t m (λ p. (if b then 1 else 0) + once_finished (place_at state t m) ≡ once_finished p)
      (λ e. cc)
      (λ ts ns. let none : once_finished (place_at state t m) ≡ 0 = rw (ts, ns, held) refl in omega (arith, here ts ns, none))
      (λ ne. rw (other ne) (omega arith))

  pub step-counted : (event : Event) (state : State) (t m : ℕ) → IsSound meaning state → Can event state
      → (if finishes event state t m then 1 else 0) + once_finished (place_at state t m) ≡ once_finished (place_at (after meaning event state) t m)
  step-counted (Ask s query) state t m sound can =
      grind (
        arith,
        cases_eq,
        cases_order,
        get_or-set_same,
        get_or-set_other,
        get_or_append_left,
        get_or_push,
        get_or_past,
        length-append,
      )
  step-counted (Take w s n) state t m sound can =
      grind (arith, sender_there, inside, cases_eq, get_or-set_same, get_or-set_other)
  step-counted (Finish w) state t m sound can =
      grind (arith, some_ticket, put_down-counted, is_ticket-same, is_ticket-other)
  step-counted (GiveBack w) state t m sound can = grind (arith, some_ticket, put_down-counted)
  step-counted (Collect s) state t m sound can =
      grind (arith, next-answered, sender_there, inside, cases_eq, get_or-set_same, get_or-set_other)
  step-counted (Close s) state t m sound can = grind (arith, cases_eq, get_or-set_same, get_or-set_other)
