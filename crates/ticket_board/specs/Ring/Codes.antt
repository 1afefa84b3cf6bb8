-- How a view is stored as a tree of numbers.
use Rattle.std.specs.Prelude.{ℕ, Bool, List, Option, refl, ◌≡◌, ◌⊎◌}
use mathlib.Core.Logic.{inl, inr}
use base.Stored.{coded_unit}
use Rattle.std.specs.Coded.{Coded, code_by, coded×, coded⊎, coded_ℕ, coded_bool, coded_list, coded_option}
use Rattle.ticket_core.specs.declared.query.Query.{Query}
use Rattle.ticket_core.specs.declared.shape.Shape.{Shape}
use Rattle.ticket_core.specs.State.{Shown, Ticket}
use Rattle.ticket_core.specs.Codes.{shown_code, shape_code, query_code}
use Rattle.ticket_board.specs.Ring.Views.{Known, Nothing, FirstWord, Whole, Asking, Working, Role, Opens, Asks, Works}
use Rattle.ticket_board.specs.Ring.Views.{View, Stamped}

abbrev pub ticket_code : Coded Ticket
ticket_code = coded× coded_ℕ coded_ℕ

-- by number: neither word, the first, both
abbrev pub known_parts : Known → Unit {0} ⊎ (ℕ ⊎ Query)
known_parts Nothing = inl tt
known_parts (FirstWord word) = inr (inl word)
known_parts (Whole query) = inr (inr query)

abbrev pub known_from : Unit {0} ⊎ (ℕ ⊎ Query) → Known
known_from (inl _) = Nothing
known_from (inr (inl word)) = FirstWord word
known_from (inr (inr query)) = Whole query

pub known_back : (known : Known) → known_from (known_parts known) ≡ known
known_back Nothing = refl
known_back (FirstWord word) = refl
known_back (Whole query) = refl

abbrev pub known_code : Coded Known
known_code =
    code_by (Unit {0} ⊎ (ℕ ⊎ Query)) (coded⊎ coded_unit (coded⊎ coded_ℕ query_code)) known_parts known_from known_back

abbrev pub asking_code : Coded Asking
asking_code =
    code_by (List Query × (List Shown × (Known × (Bool × (Option Shown × List ℕ)))))
    (coded× (coded_list query_code) (coded× (coded_list shown_code) (coded× known_code (coded× coded_bool
    (coded× (coded_option shown_code) (coded_list coded_ℕ))))))
    (λ asking. (asking.asked, (asking.received, (asking.ahead, (asking.found, (asking.collecting, asking.missed))))))
    (λ p. record {
      asked = p.0;
      received = p.1.0;
      ahead = p.1.1.0;
      found = p.1.1.1.0;
      collecting = p.1.1.1.1.0;
      missed = p.1.1.1.1.1;
    }) (λ _. refl)

abbrev pub working_code : Coded Working
working_code =
    code_by (Option Ticket × (Known × (Option Ticket × (List ℕ × (List Ticket × List Ticket)))))
    (coded× (coded_option ticket_code) (coded× known_code (coded× (coded_option ticket_code)
    (coded× (coded_list coded_ℕ) (coded× (coded_list ticket_code) (coded_list ticket_code))))))
    (λ working. (working.hand, (working.read, (working.seen, (working.missed, (working.done, working.returned))))))
    (λ p. record {
      hand = p.0;
      read = p.1.0;
      seen = p.1.1.0;
      missed = p.1.1.1.0;
      done = p.1.1.1.1.0;
      returned = p.1.1.1.1.1;
    }) (λ _. refl)

abbrev pub role_parts : Role → ℕ ⊎ ((ℕ × Asking) ⊎ (ℕ × Working))
role_parts (Opens cut) = inl cut
role_parts (Asks s asking) = inr (inl (s, asking))
role_parts (Works w working) = inr (inr (w, working))

abbrev pub role_from : ℕ ⊎ ((ℕ × Asking) ⊎ (ℕ × Working)) → Role
role_from (inl cut) = Opens cut
role_from (inr (inl sender)) = Asks sender.0 sender.1
role_from (inr (inr worker)) = Works worker.0 worker.1

pub role_back : (role : Role) → role_from (role_parts role) ≡ role
role_back (Opens cut) = refl
role_back (Asks s asking) = refl
role_back (Works w working) = refl

abbrev pub role_code : Coded Role
role_code =
    code_by (ℕ ⊎ ((ℕ × Asking) ⊎ (ℕ × Working)))
    (coded⊎ coded_ℕ (coded⊎ (coded× coded_ℕ asking_code) (coded× coded_ℕ working_code)))
    role_parts role_from role_back

abbrev pub view_code : Coded View
view_code =
    code_by (Shape × (List ℕ × Role)) (coded× shape_code (coded× (coded_list coded_ℕ) role_code))
    (λ view. (view.shape, (view.key, view.role))) (λ p. record { shape = p.0; key = p.1.0; role = p.1.1 }) (λ _. refl)

abbrev pub stamped_code : Coded Stamped
stamped_code =
    code_by (View × ℕ) (coded× view_code coded_ℕ)
    (λ known. (known.view, known.last)) (λ p. record { view = p.0; last = p.1 }) (λ _. refl)
