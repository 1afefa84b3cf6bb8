-- How a state is stored as a tree of numbers. Different states have different trees.
use Rattle.std.specs.Prelude.{ℕ, Bool, List, Option, refl, ◌≡◌, ◌⊎◌}
use mathlib.Core.Logic.{inl, inr}
use base.Stored.{coded_unit}
use Rattle.std.specs.Coded.{Coded, code_by, coded×, coded⊎, coded_ℕ, coded_bool, coded_list, coded_option}
use Rattle.ticket_core.specs.declared.query.Query.{Query}
use Rattle.ticket_core.specs.declared.query.QueryKind.TheVariants.{Address, Span}
use Rattle.ticket_core.specs.declared.shape.Shape.{Shape}
use Rattle.ticket_core.specs.State.{Shown, Place, Unasked, Waiting, Held, Answered, Collected, Sender, Ticket, State}

abbrev pub shown_code : Coded Shown
shown_code = record { code = λ shown. shown; inj = λ x y same. same }

abbrev pub shape_code : Coded Shape
shape_code =
    code_by (ℕ × (ℕ × (ℕ × ℕ))) (coded× coded_ℕ (coded× coded_ℕ (coded× coded_ℕ coded_ℕ)))
    (λ shape. (shape.senders, (shape.workers, (shape.window, shape.most))))
    (λ p. record { senders = p.0; workers = p.1.0; window = p.1.1.0; most = p.1.1.1 }) (λ _. refl)

-- by number: an address, a span
abbrev pub query_parts : Query → ℕ ⊎ (ℕ × ℕ)
query_parts (Address a) = inl a
query_parts (Span low high) = inr (low, high)

abbrev pub query_from : ℕ ⊎ (ℕ × ℕ) → Query
query_from (inl a) = Address a
query_from (inr (low, high)) = Span low high

pub query_back : (query : Query) → query_from (query_parts query) ≡ query
query_back (Address a) = refl
query_back (Span low high) = refl

abbrev pub query_code : Coded Query
query_code = code_by (ℕ ⊎ (ℕ × ℕ)) (coded⊎ coded_ℕ (coded× coded_ℕ coded_ℕ)) query_parts query_from query_back

-- by number: no place, waiting, held, answered, collected
abbrev pub place_parts : Place → Unit {0} ⊎ (Unit {0} ⊎ (ℕ ⊎ (Shown ⊎ Unit {0})))
place_parts Unasked = inl tt
place_parts Waiting = inr (inl tt)
place_parts (Held worker) = inr (inr (inl worker))
place_parts (Answered answer) = inr (inr (inr (inl answer)))
place_parts Collected = inr (inr (inr (inr tt)))

abbrev pub place_from : Unit {0} ⊎ (Unit {0} ⊎ (ℕ ⊎ (Shown ⊎ Unit {0}))) → Place
place_from (inl _) = Unasked
place_from (inr (inl _)) = Waiting
place_from (inr (inr (inl worker))) = Held worker
place_from (inr (inr (inr (inl answer)))) = Answered answer
place_from (inr (inr (inr (inr _)))) = Collected

pub place_back : (place : Place) → place_from (place_parts place) ≡ place
place_back Unasked = refl
place_back Waiting = refl
place_back (Held worker) = refl
place_back (Answered answer) = refl
place_back Collected = refl

abbrev pub place_code : Coded Place
place_code =
    code_by (Unit {0} ⊎ (Unit {0} ⊎ (ℕ ⊎ (Shown ⊎ Unit {0}))))
    (coded⊎ coded_unit (coded⊎ coded_unit (coded⊎ coded_ℕ (coded⊎ shown_code coded_unit))))
    place_parts place_from place_back

abbrev pub sender_code : Coded Sender
sender_code =
    code_by (List Query × (List Shown × (Bool × List Place)))
    (coded× (coded_list query_code) (coded× (coded_list shown_code) (coded× coded_bool (coded_list place_code))))
    (λ sender. (sender.asked, (sender.received, (sender.closed, sender.places))))
    (λ p. record { asked = p.0; received = p.1.0; closed = p.1.1.0; places = p.1.1.1 }) (λ _. refl)

abbrev pub state_code : Coded State
state_code =
    code_by (Shape × (List ℕ × (List Sender × List (Option Ticket))))
    (coded× shape_code (coded× (coded_list coded_ℕ)
    (coded× (coded_list sender_code) (coded_list (coded_option (coded× coded_ℕ coded_ℕ))))))
    (λ state. (state.shape, (state.key, (state.senders, state.hands))))
    (λ p. record { shape = p.0; key = p.1.0; senders = p.1.1.0; hands = p.1.1.1 }) (λ _. refl)
