-- A seat of the ring's table: a step that is a move of this seat keeps the rule.
use Rattle.std.proofs.Common.{◌≡◌, ℕ, suc, List, ◌∷◌, length, map, set, Option, sym, ◌∙◌, subst, arith}
use Rattle.std.proofs.lemmas.List.{map-set}
use mathlib.Core.Option as maybe
use lib.ListN.{get_elem?}
use Rattle.atomic_table.specs.Table as table
use Rattle.ticket_core.specs.declared.shape.Shape.{Shape}
use Rattle.ticket_core.specs.State.{Shown, Meaning, State}
use Rattle.ticket_board.specs.Ring.Layout.{cell_of}
use Rattle.ticket_board.specs.Ring.Homes.{Home}
use Rattle.ticket_board.specs.Ring.Views.{Role, View, Stamped, stamped, seat_of}
use Rattle.ticket_board.specs.Ring.Shows.{Board, StandsAt, Seated, Sits, Shows}
use Rattle.ticket_board.specs.Ring.Moves.{IsMade, Occurs}
use Rattle.ticket_board.specs.Ring.Rule.{home_shown, board_shown, views_of, lasts_of, Holds}
use Rattle.ticket_board.proofs.RingMoves.{made-shows, made-occurs, stands-seat}
use Rattle.ticket_board.proofs.ViewLemmas.{set_here}
use Rattle.ticket_board.proofs.RingHomes.{get-map}

module _ {A : Type 0} (shown : A → Shown) (meaning : Meaning) (shape : Shape) (key : List ℕ) (id : ℕ) (me : table.Me (Option A) Stamped)
    (state : table.State (Option A) Stamped) (holds : Holds shown meaning shape key state) (sits : get_elem? state.views id ≡ maybe.some me.0) where
  -- a state of the core that the table shows
  pub core : (core : State) × Shows meaning shape key (board_shown shown state) core
  core = made-shows meaning shape key (board_shown shown state) (lasts_of state.views) holds

  pub seated : Seated shape key (length (views_of state.views)) id me.0.view
  seated = core.1.seated id me.0.view (get-map (λ (x : Stamped). x.view) state.views id me.0 sits)

  -- the seat in this role, under the shape and the key of the rule, and after one move more
  abbrev pub seat : Role → View
  seat role = record { shape = shape; key = key; role = role }

  abbrev pub known : Role → Stamped
  known role = stamped (seat role) (suc (length holds.1))

  -- the words, the slots and this seat's view
  abbrev pub MadeWith : List ℕ → List Home → Role → Type 0
  MadeWith words homes role =
      IsMade meaning shape key (record { words = words; homes = homes; views = views_of (set state.views id (known role)) })
      (lasts_of (set state.views id (known role)))

  -- what the rule asks of a step that leaves this word at this place
  abbrev pub Ends : ℕ → ℕ → (table.Me (Option A) Stamped → Type 0) → Type 0
  Ends place word told =
      (new : Stamped) × (act : table.Act (Option A)) × table.Valid state.homes me.1 act
      × Holds shown meaning shape key (table.stepped state place word id me.1 new act) × told (new, table.carried_after me.1 act)

  -- the slot that it took last is given back
  pub put-back : (s n : ℕ) (value : Option A) → me.1 ≡ (cell_of me.0.view.shape s n, value) ∷ table.rest me.1
      → map (home_shown shown) (table.put_back state.homes me.1)
      ≡ set (map (home_shown shown) state.homes) (cell_of shape s n) (home_shown shown (maybe.some value))
  put-back s n value carries = grind (arith, map-set, seated)

  module _ (role : Role) (is : me.0.view.role ≡ role) where
    pub sits-as : Sits (board_shown shown state) id (seat role)
    sits-as = grind (arith, get-map, seated)

    seat-is : id ≡ seat_of shape role
    seat-is = sym (stands-seat meaning shape (length (views_of state.views)) id role (subst (StandsAt shape (length (views_of state.views)) id) is seated.stands))

    pub sits-there : Sits (board_shown shown state) (seat_of shape role) (seat role)
    sits-there = subst (λ (x : ℕ). Sits (board_shown shown state) x (seat role)) seat-is sits-as

    -- a move of the seat, as the table has it
    pub made-with : (words : List ℕ) (homes : List Home) (new : Role)
        → IsMade meaning shape key (record { words = words; homes = homes; views = set (views_of state.views) (seat_of shape role) (seat new) })
        (set (lasts_of state.views) (seat_of shape role) (suc (length holds.1)))
        → MadeWith words homes new
    made-with words homes new made = grind (arith, map-set, seat-is)

    -- and what the seat knows then occurs
    pub occurs : (words : List ℕ) (homes : List Home) (new : Role) → seat_of shape role ≡ seat_of shape new → MadeWith words homes new → Occurs meaning (seat new)
    occurs words homes new same made =
        let board : Board = record { words = words; homes = homes; views = views_of (set state.views id (known new)) } in
        made-occurs meaning shape key board (lasts_of (set state.views id (known new))) new made
        (subst (λ (x : ℕ). Sits board x (seat new)) (seat-is ∙ same)
        (get-map (λ (x : Stamped). x.view) (set state.views id (known new)) id (known new) (set_here state.views id me.0 (known new) sits)))
