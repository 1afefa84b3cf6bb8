-- What moves make of a ring shows a state of the core, to which their events lead.
use Rattle.std.proofs.Common.{◌≡◌, ℕ, suc, ◌+◌, ◌<◌, List, [], ◌∷◌, ◌++◌, length, set, Option, Some, None, refl, sym, ◌∙◌, ap, subst, arith}
use Rattle.std.proofs.lemmas.List.{length-set}
use mathlib.Core.Option.{some}
use lib.ListN.{get_elem?}
use Rattle.ticket_core.specs.declared.shape.Shape.{Shape}
use Rattle.ticket_core.specs.State.{Meaning, State, opening}
use Rattle.ticket_core.specs.Events.{Event, after}
use Rattle.ticket_core.specs.Runs.{Run, Reaches}
use Rattle.ticket_board.specs.Ring.Views.{Role, View, opener, sender_seat, worker_seat, seat_of}
use Rattle.ticket_board.specs.Ring.Shows.{Board, StandsAt, Sits, Shows}
use Rattle.ticket_board.specs.Ring.Steps.{WritesFirst, WritesSecond, Publishes, LooksNext, BringsOut, Receives, LooksAt, Takes, ReadsFirst, ReadsSecond, Answers, GivesBack}
use Rattle.ticket_board.specs.Ring.Opening.{next_seat}
use Rattle.ticket_board.specs.Ring.Laws.{Leads, MoveLaw, OpeningLaw}
use Rattle.ticket_board.specs.Ring.Moves.{Move, Cuts, Sends, Works, MayMove, moved, event_of, board_after, MayBeMade, then_event, events_of, stamps_moved, IsMade, Occurs}
use Rattle.ticket_board.proofs.RingSenderSteps.{writes-first, writes-second, publishes, looks-next, brings-out, receives}
use Rattle.ticket_board.proofs.RingWorkerSteps.{looks-at, takes, reads-first, reads-second, answers, gives-back}
use Rattle.ticket_board.proofs.ViewLemmas.{set_here, still_there, last_there}
use Rattle.ticket_board.proofs.RingOpening.{opens, cuts}

-- one event more
run-then : (meaning : Meaning) (events : List Event) (old mid new : State) (event : Option Event) → Run meaning old events mid → Leads meaning event mid new
    → Run meaning old (then_event events event) new
run-then meaning events old mid new None run is = subst (λ (x : State). Run meaning old events x) (sym is) run
run-then meaning [] old mid new (Some event) run step = grind arith
run-then meaning (first ∷ events) old mid new (Some event) run step =
    (run.0, run-then meaning events (after meaning first old) mid new (Some event) run.1 step)

module _ (meaning : Meaning) where
  pub any_opening : OpeningLaw meaning
  unfolding OpeningLaw
  any_opening shape key words fits free = opens meaning shape key fits words free

  pub any_move : (move : Move) → MoveLaw meaning move
  unfolding MoveLaw
  any_move (Cuts cut) shape key board state shows may =
      (state, refl, cuts meaning shape key board state shows 0 cut may.0 may.1)
  any_move (Sends s asking (WritesFirst word)) shape key board state shows may =
      (state, refl, writes-first meaning shape key board state (sender_seat s) s asking shows may.0 word may.1)
  any_move (Sends s asking (WritesSecond query)) shape key board state shows may =
      (state, refl, writes-second meaning shape key board state (sender_seat s) s asking shows may.0 query may.1.0 may.1.1)
  any_move (Sends s asking (Publishes query)) shape key board state shows may =
      publishes meaning shape key board state (sender_seat s) s asking shows may.0 query may.1
  any_move (Sends s asking LooksNext) shape key board state shows may =
      (state, refl, looks-next meaning shape key board state (sender_seat s) s asking shows may.0)
  any_move (Sends s asking BringsOut) shape key board state shows may =
      (state, refl, brings-out meaning shape key board state (sender_seat s) s asking shows may.0 may.1)
  any_move (Sends s asking (Receives answer)) shape key board state shows may =
      receives meaning shape key board state (sender_seat s) s asking shows may.0 answer may.1
  any_move (Works w working (LooksAt cell)) shape key board state shows may =
      (state, refl, looks-at meaning shape key board state shows (worker_seat shape w) w working may.0 cell may.1.0 may.1.1)
  any_move (Works w working (Takes s n)) shape key board state shows may =
      takes meaning shape key board state shows (worker_seat shape w) w working may.0 s n may.1.0 may.1.1
  any_move (Works w working (ReadsFirst s n)) shape key board state shows may =
      (state, refl, reads-first meaning shape key board state shows (worker_seat shape w) w working may.0 s n may.1)
  any_move (Works w working (ReadsSecond s n first)) shape key board state shows may =
      (state, refl, reads-second meaning shape key board state shows (worker_seat shape w) w working may.0 s n first may.1.0 may.1.1)
  any_move (Works w working (Answers s n query answer)) shape key board state shows may =
      answers meaning shape key board state shows (worker_seat shape w) w working may.0 s n may.1.0 query answer may.1.1 may.1.2
  any_move (Works w working (GivesBack s n)) shape key board state shows may =
      gives-back meaning shape key board state shows (worker_seat shape w) w working may.0 s n may.1

  module _ (shape : Shape) (key : List ℕ) where
    pub moves-show : (words : List ℕ) (moves : List Move) → MayBeMade meaning shape key words moves
        → (core : State) × Shows meaning shape key (board_after shape key words moves) core
        × Reaches meaning shape key (events_of shape key words moves) core
    unfolding MoveLaw
    moves-show words [] may = (opening shape key, opens meaning shape key may.0 words may.1, refl)
    moves-show words (move ∷ moves) may =
        let before = moves-show words moves may.0 in
        let now = any_move move shape key (board_after shape key words moves) before.0 before.1 may.1 in (
          now.0,
          now.2,
          run-then meaning (events_of shape key words moves) (opening shape key) before.0 now.0
              (event_of shape (board_after shape key words moves) move) before.2 now.1,
        )

    -- what is made shows a state
    pub made-shows : (board : Board) (stamps : List ℕ) → IsMade meaning shape key board stamps → (core : State) × Shows meaning shape key board core
    made-shows board stamps made = grind (arith, moves-show)

    -- one move more
    pub made-on : (board : Board) (stamps : List ℕ) → (made : IsMade meaning shape key board stamps) → (move : Move) → MayMove meaning shape key board move
        → IsMade meaning shape key (moved shape key board move) (stamps_moved shape (suc (length made.1)) stamps move)
    made-on board stamps made move may = (
      made.0,
      move ∷ made.1,
      record {
        may = (made.2.may, subst (λ (x : Board). MayMove meaning shape key x move) made.2.is may);
        is = ap (λ (x : Board). moved shape key x move) made.2.is;
        stamps_are = ap (λ (x : List ℕ). stamps_moved shape (suc (length made.1)) x move) made.2.stamps_are;
      },
    )

    -- what a seat knows occurs
    pub made-occurs : (board : Board) (stamps : List ℕ) (role : Role) → IsMade meaning shape key board stamps
        → Sits board (seat_of shape role) (record { shape = shape; key = key; role = role }) → Occurs meaning (record { shape = shape; key = key; role = role })
    made-occurs board stamps role made sits = grind arith

  -- so does what a seat that is cut off knows, and what the opening one knows then
  pub stands-seat : (shape : Shape) (seats seat : ℕ) (role : Role) → StandsAt shape seats seat role → seat_of shape role ≡ seat
  stands-seat shape seats seat role stands = grind arith

  pub cut-occurs : (shape : Shape) (key : List ℕ) (cut : ℕ) → cut < shape.senders + shape.workers → Occurs meaning (opener shape key cut)
      → Occurs meaning (opener shape key (suc cut)) × Occurs meaning (next_seat shape key cut)
  cut-occurs shape key cut left (words, moves, may, sits) =
      let board : Board = board_after shape key words moves in
      let told : List View = set board.views 0 (opener shape key (suc cut)) in
      let all : MayBeMade meaning shape key words (Cuts cut ∷ moves) = (may, (sits, left)) in
      let before = moves-show shape key words moves may in
      let now = moves-show shape key words (Cuts cut ∷ moves) all in
      let many : length board.views ≡ suc cut = (before.1.seated 0 (opener shape key cut) sits).stands.1 in
      let last : get_elem? (told ++ next_seat shape key cut ∷ []) (suc cut) ≡ some (next_seat shape key cut) =
      subst (λ (x : ℕ). get_elem? (told ++ next_seat shape key cut ∷ []) x ≡ some (next_seat shape key cut))
      (length-set board.views 0 (opener shape key (suc cut)) ∙ many) (last_there told (next_seat shape key cut)) in
      let seated = now.1.seated (suc cut) (next_seat shape key cut) last in (
        (
          words,
          Cuts cut ∷ moves,
          all,
          still_there told (next_seat shape key cut ∷ []) 0 (opener shape key (suc cut))
              (set_here board.views 0 (opener shape key cut) (opener shape key (suc cut)) sits),
        ),
        (
          words,
          Cuts cut ∷ moves,
          all,
          subst (λ (x : ℕ). get_elem? (told ++ next_seat shape key cut ∷ []) x ≡ some (next_seat shape key cut))
              (sym (stands-seat shape _ (suc cut) (next_seat shape key cut).role seated.stands)) last,
        ),
      )
