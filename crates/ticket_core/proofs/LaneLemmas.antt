-- What a lane shows after a call.
use Rattle.std.proofs.Common.{◌≡◌, ℕ, zero, suc, ◌<◌, eqb, arith, Some, ◌&&◌, Bool, false, List, [], ◌∷◌, ◌++◌, length, get_or, set, map, refl, ap, sym, ◌∙◌}
use Rattle.std.proofs.lemmas.Bool.{ne_eqb}
use Rattle.std.proofs.lemmas.List.{map-set, map-append, get_or-map, length-map}
use Rattle.ticket_core.specs.declared.lane.Slot.{Slot}
use Rattle.ticket_core.specs.declared.lane.Slot.TheVariants.{Filled, Spent}
use Rattle.ticket_core.specs.declared.query.Query.{Query}
use Rattle.ticket_core.specs.State.{Shown, Place, Unasked, Answered, Collected, Sender}
use Rattle.ticket_core.specs.Events.{puts, collects, answer_in}
use Rattle.ticket_core.specs.declared.fault.CoreFault.TheVariants.{NotReady}
use Rattle.ticket_core.specs.Refusals.{collect_refusal, is_answered}
use Rattle.ticket_core.specs.Shown.{place_shown}

abbrev sender : List Query → List Shown → Bool → List Place → Sender
sender asked received closed places = record { asked = asked; received = received; closed = closed; places = places }

pub and_false : (b : Bool) → (b && false) ≡ false
and_false b = grind arith

module _ {A : Type 0} (shown : A → Shown) where
  abbrev places : List (Slot A) → List Place
  places slots = map (place_shown shown) slots

  -- the place of a number is what its slot shows
  pub place-shown : (slots : List (Slot A)) (n : ℕ) (d : Slot A) → n < length slots → get_or (places slots) n Unasked ≡ place_shown shown (get_or slots n d)
  place-shown slots n d h = get_or-map (place_shown shown) slots n d Unasked h

  pub put-shown : (asked : List Query) (received : List Shown) (closed : Bool) (slots : List (Slot A)) (n : ℕ) (slot : Slot A)
      → sender asked received closed (places (set slots n slot)) ≡ puts n (place_shown shown slot) (sender asked received closed (places slots))
  put-shown asked received closed slots n slot = ap (sender asked received closed) (map-set (place_shown shown) slots n slot)

  pub answer-shown : (place : Place) (answer : A) → place ≡ Answered (shown answer) → answer_in place ≡ shown answer
  answer-shown place answer e = ap answer_in e

  pub collected-shown : (asked : List Query) (received : List A) (closed : Bool) (slots : List (Slot A)) (answer : A) (d : Slot A)
      → length received < length slots → get_or slots (length received) d ≡ Filled answer
      → sender asked (map shown (received ++ answer ∷ [])) closed (places (set slots (length received) Spent))
      ≡ collects (sender asked (map shown received) closed (places slots))
  collected-shown asked received closed slots answer d h e =
      let n : length (map shown received) ≡ length received = length-map received shown in
      let at : get_or (places slots) (length received) Unasked ≡ place_shown shown (get_or slots (length received) d) = place-shown slots (length received) d h in
      let found : get_or (places slots) (length received) Unasked ≡ Answered (shown answer) = at ∙ ap (place_shown shown) e in
      let first : map shown (received ++ answer ∷ []) ≡ map shown received ++ shown answer ∷ [] = map-append shown received (answer ∷ []) in
      let shows : shown answer ≡ answer_in (get_or (places slots) (length received) Unasked) = sym (answer-shown _ answer found) in
      let second : places (set slots (length received) Spent) ≡ set (places slots) (length received) Collected = map-set (place_shown shown) slots (length received) Spent in
      rw (n, first, second, shows) refl

  -- a slot that is taken out and put back
  pub put_back-shown : (slots : List (Slot A)) (n : ℕ) (other slot : Slot A) → slot ≡ get_or slots n slot → set (set slots n other) n slot ≡ slots
  put_back-shown [] n other slot e = refl
  put_back-shown (x ∷ xs) zero other slot e = ap (λ y. y ∷ xs) e
  put_back-shown (x ∷ xs) (suc n) other slot e = ap (λ ys. x ∷ ys) (put_back-shown xs n other slot e)

  pub unfilled : (slot : Slot A) → ((answer : A) → slot ≡ Filled answer → ⊥) → is_answered (place_shown shown slot) ≡ false
  unfilled slot f = grind arith

  pub not_ready-shown : (asked : List Query) (received : List A) (closed : Bool) (slots : List (Slot A)) (slot : Slot A)
      → length slots ≡ length asked → length received < length slots → slot ≡ get_or slots (length received) slot
      → ((answer : A) → slot ≡ Filled answer → ⊥)
      → collect_refusal (sender asked (map shown received) closed (places slots)) ≡ Some NotReady
  not_ready-shown asked received closed slots slot e h at f =
      let n : length (map shown received) ≡ length received = length-map received shown in
      let ne : eqb (length received) (length asked) ≡ false = ne_eqb (length received) (length asked) (λ q. absurd (omega arith)) in
      let place : get_or (places slots) (length received) Unasked ≡ place_shown shown (get_or slots (length received) slot) = place-shown slots (length received) slot h in
      let un : is_answered (place_shown shown slot) ≡ false = unfilled slot f in
      let none : is_answered (get_or (places slots) (length received) Unasked) ≡ false = rw (place, ← at) un in
      rw (n, ne, none, and_false closed) refl

  -- the same as the code has it: the number is read, and the slot's content taken out

  read : (slots : List (Slot A)) (n : ℕ) (slot there : Slot A) → slot ≡ there → there ≡ get_or slots n there → slot ≡ get_or slots n slot
  read slots n slot there e at = rw e at

  pub collected-read : (asked : List Query) (received now : List A) (closed : Bool) (slots : List (Slot A)) (n : ℕ) (slot there left : Slot A) (answer : A)
      → n ≡ length received → n < length slots → slot ≡ there → there ≡ get_or slots n there → slot ≡ Filled answer → left ≡ Spent
      → now ≡ received ++ answer ∷ []
      → sender asked (map shown now) closed (places (set slots n left)) ≡ collects (sender asked (map shown received) closed (places slots))
  collected-read asked received now closed slots n slot there left answer e h same at is after items =
      let h2 : length received < length slots = omega arith in
      let at2 : get_or slots (length received) slot ≡ Filled answer = rw (← e) (sym (read slots n slot there same at) ∙ is) in
      rw (after, items, e) (collected-shown asked received closed slots answer slot h2 at2)

  pub put_back-read : (asked : List Query) (received : List Shown) (closed : Bool) (slots : List (Slot A)) (n : ℕ) (other slot there : Slot A)
      → slot ≡ there → there ≡ get_or slots n there
      → sender asked received closed (places (set (set slots n other) n slot)) ≡ sender asked received closed (places slots)
  put_back-read asked received closed slots n other slot there same at = grind (arith, put_back-shown, read)

  pub not_ready-read : (asked : List Query) (received : List A) (closed : Bool) (slots : List (Slot A)) (n : ℕ) (slot there : Slot A)
      → slot ≡ there → there ≡ get_or slots n there → ((answer : A) → slot ≡ Filled answer → ⊥)
      → n ≡ length received → length slots ≡ length asked → n < length slots
      → collect_refusal (sender asked (map shown received) closed (places slots)) ≡ Some NotReady
  not_ready-read asked received closed slots n slot there here at f e same h = grind (arith, read, not_ready-shown)
