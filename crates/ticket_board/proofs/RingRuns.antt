-- What holds of a ring after any moves: each number is answered once, workers have done what their
-- moves answered, senders are served, and the lists of one that has all its answers stay.
use Rattle.std.proofs.Common.{◌≡◌, ◌≢◌, ℕ, zero, suc, ◌+◌, ◌<◌, ◌≤◌, List, [], ◌∷◌, ◌++◌, length, map, take, get_or, set, inl, inr, refl, sym, ◌∙◌, ap, subst, append-nil, append_assoc, arith, eq-eqb, if◌then◌else◌}
use Rattle.std.specs.List.{Contains}
use Rattle.std.proofs.lemmas.Bool.{cases_eq, ne_eqb}
use Rattle.std.proofs.lemmas.List.{length-append, take_all}
use base.Stored.{gnil}
use Rattle.ticket_core.specs.declared.query.Query.{Query}
use Rattle.ticket_core.specs.declared.query.QueryKind.TheVariants.{Address}
use Rattle.ticket_core.specs.declared.shape.Shape.{Shape}
use Rattle.ticket_core.specs.State.{Shown, Meaning, Place, State, Ticket, sender_at, place_of, outstanding}
use Rattle.ticket_core.specs.Runs.{IsRight, once_finished}
use Rattle.ticket_board.specs.Ring.Layout.{state_at}
use Rattle.ticket_board.specs.Ring.Homes.{Home, home_at}
use Rattle.ticket_board.specs.Ring.Views.{Asking, Working, asker, worker, sender_seat, worker_seat, asking_at, working_at, next_asked, next_received}
use Rattle.ticket_board.specs.Ring.Shows.{Board, Sits, is_same, times, times_done, Shows}
use Rattle.ticket_board.specs.Ring.Steps.{SenderStep, WorkerStep, Publishes, Receives, Answers, asking_after, working_after, word_worked}
use Rattle.ticket_board.specs.Ring.Laws.{IsServed, answers, times_answered, done_by, all_done_by, IsDone, IsAtEnd}
use Rattle.ticket_board.specs.Ring.Moves.{Move, Cuts, Sends, Works, MayMove, moved, board_after, MayBeMade}
use Rattle.ticket_board.proofs.RingViews.{times-set, times-append}
use Rattle.ticket_board.proofs.RingFrames.{asking-is, asking-here, asking-else, asking-same, working-is, working-here, working-else, working-same}
use Rattle.ticket_board.proofs.RingOpening.{times-cut, asking-cut, working-cut}
use Rattle.ticket_board.proofs.RingMoves.{moves-show}

-- ---- lists

-- a list of answers that are right one by one
right-list : (meaning : Meaning) (key : List ℕ) (asked : List Query) (received : List Shown) → length received ≤ length asked
    → ((n : ℕ) → n < length received → get_or received n gnil ≡ meaning key (get_or asked n (Address 0)))
    → received ≡ map (meaning key) (take (length received) asked)
right-list meaning key asked [] within right = refl
right-list meaning key [] (answer ∷ received) within right = absurd (omega arith)
right-list meaning key (query ∷ asked) (answer ∷ received) within right =
    (λ i. right 0 (omega arith) i ∷ right-list meaning key asked received (omega arith) (λ n h. right (suc n) (omega arith)) i)

-- a list grew by nothing
no-more : {A : Type 0} (old more new : List A) → new ≡ old ++ more → length new ≤ length old → new ≡ old
no-more old [] new is short = is ∙ append-nil old
no-more old (x ∷ xs) new is short = absurd (omega (arith, ap length is, length-append old (x ∷ xs)))

-- ---- lists of a sender only grow

pub record Grows (old new : Asking) : Type 0 where
  pub asked : List Query
  pub asked_is : new.asked ≡ old.asked ++ asked
  pub received : List Shown
  pub received_is : new.received ≡ old.received ++ received

same-lists : (old new : Asking) → new.asked ≡ old.asked → new.received ≡ old.received → Grows old new
same-lists old new asked received = record {
  asked = [];
  asked_is = asked ∙ sym (append-nil old.asked);
  received = [];
  received_is = received ∙ sym (append-nil old.received);
}

stays : (old new : Asking) → new ≡ old → Grows old new
stays old new is = same-lists old new (ap (λ (x : Asking). x.asked) is) (ap (λ (x : Asking). x.received) is)

grows-on : (old mid new : Asking) → Grows old mid → Grows mid new → Grows old new
grows-on old mid new first second = grind (arith, append_assoc)

sent-grows : (asking : Asking) (step : SenderStep) (word : ℕ) (home : Home) → Grows asking (asking_after asking step word home)
sent-grows asking (Publishes query) word home = grind (arith, append-nil)
sent-grows asking (Receives answer) word home = record {
  asked = [];
  asked_is = sym (append-nil asking.asked);
  received = answer ∷ [];
  received_is = refl;
}
sent-grows asking step word home = same-lists asking (asking_after asking step word home) refl refl

-- ---- what workers have done

-- what a step adds to the list of its own worker, and what it is to others
done-after : (shape : Shape) (w : ℕ) (working : Working) (step : WorkerStep) (word : ℕ)
    → (working_after shape working step word).done ≡ working.done ++ done_by w (Works w working step)
done-after shape w working (Answers s n query answer) word = rw (eq-eqb w w refl) refl
done-after shape w working step word = sym (append-nil working.done)

done-else : (w v : ℕ) (working : Working) (step : WorkerStep) → w ≢ v → done_by w (Works v working step) ≡ []
done-else w v working (Answers s n query answer) ne = rw (ne_eqb v w (λ e. ne (sym e))) refl
done-else w v working step ne = refl

-- a number that is in a list is counted there
contained : (s n : ℕ) (tickets : List Ticket) → Contains tickets (s, n) → 1 ≤ times s n tickets
contained s n [] (k, within, is) = absurd (omega arith)
contained s n (ticket ∷ tickets) (zero, within, is) = rw is (rw (eq-eqb s s refl, eq-eqb n n refl) (omega arith))
contained s n (ticket ∷ tickets) (suc k, within, is) =
    let later : 1 ≤ times s n tickets = contained s n tickets (k, omega arith, is) in omega arith

-- the moves of one worker answer a number no oftener than all of them
own-times : (w s n : ℕ) (moves : List Move) → times s n (all_done_by w moves) ≤ times_answered s n moves
own-times w s n [] = omega arith
own-times w s n (Cuts cut ∷ moves) = grind (arith, append-nil, own-times w s n moves)
own-times w s n (Sends t asking step ∷ moves) = grind (arith, append-nil, own-times w s n moves)
own-times w s n (Works v working (Answers t m query answer) ∷ moves) =
    grind (arith, append-nil, times-append, own-times w s n moves)
own-times w s n (Works v working step ∷ moves) = grind (arith, append-nil, own-times w s n moves)

once-most : (place : Place) → once_finished place ≤ 1
once-most place = grind arith

module _ (meaning : Meaning) (shape : Shape) (key : List ℕ) where
  -- ---- one move

  module _ (board : Board) (state : State) (shows : Shows meaning shape key board state) where
    -- what the senders know
    asking-grows : (move : Move) → MayMove meaning shape key board move → (t : ℕ) → t < shape.senders
        → Grows (asking_at board.views t) (asking_at (moved shape key board move).views t)
    asking-grows (Cuts cut) may t below =
        stays _ _ (asking-cut meaning shape key board state shows 0 cut may.0 may.1 t)
    asking-grows (Works w working step) may t below =
        stays _ _ (asking-same meaning shape key board state shows (worker_seat shape w) w working may.0 board.words board.homes
        (working_after shape working step (get_or board.words (word_worked shape step) 0)) state t below)
    asking-grows (Sends s asking step) may t below =
        let new : Asking = asking_after asking step (state_at shape board.words s (next_received asking)) (home_at shape board.homes s (next_received asking)) in
        elim (cases_eq t s) [
          | inl e ↦ subst (λ (x : ℕ). Grows (asking_at board.views x) (asking_at (moved shape key board (Sends s asking step)).views x)) (sym e)
              (subst (λ (x : Asking × Asking). Grows x.0 x.1)
              (λ i. (
                sym (asking-is meaning shape key board state shows (sender_seat s) s asking may.0) i,
                sym (asking-here meaning shape key board state shows (sender_seat s) s asking may.0 board.words board.homes new state) i,
              )) (sent-grows asking step (state_at shape board.words s (next_received asking)) (home_at shape board.homes s (next_received asking))))
          | inr ne ↦ stays _ _ (asking-else meaning shape key board state shows (sender_seat s) s asking may.0 board.words board.homes new state t ne)
        ]

    -- what a worker has done
    done-moved : (move : Move) → MayMove meaning shape key board move → (w : ℕ)
        → (working_at shape (moved shape key board move).views w).done ≡ (working_at shape board.views w).done ++ done_by w move
    done-moved (Cuts cut) may w =
        ap (λ (x : Working). x.done) (working-cut meaning shape key board state shows 0 cut may.0 may.1 w)
        ∙ sym (append-nil (working_at shape board.views w).done)
    done-moved (Sends s asking step) may w =
        let new : Asking = asking_after asking step (state_at shape board.words s (next_received asking)) (home_at shape board.homes s (next_received asking)) in
        ap (λ (x : Working). x.done) (working-same meaning shape key board state shows (sender_seat s) s asking may.0 board.words board.homes new state w)
        ∙ sym (append-nil (working_at shape board.views w).done)
    done-moved (Works v working step) may w =
        let word : ℕ = get_or board.words (word_worked shape step) 0 in
        let new : Working = working_after shape working step word in
        elim (cases_eq w v) [
          | inl e ↦ subst (λ (x : ℕ). (working_at shape (moved shape key board (Works v working step)).views x).done ≡ (working_at shape board.views x).done ++ done_by x (Works v working step)) (sym e)
              (ap (λ (x : Working). x.done) (working-here meaning shape key board state shows (worker_seat shape v) v working may.0 board.words board.homes new state)
              ∙ done-after shape v working step word
              ∙ ap (λ (x : Working). x.done ++ done_by v (Works v working step)) (sym (working-is meaning shape key board state shows (worker_seat shape v) v working may.0)))
          | inr ne ↦ ap (λ (x : Working). x.done) (working-else meaning shape key board state shows (worker_seat shape v) v working may.0 board.words board.homes new state w ne)
              ∙ sym (append-nil (working_at shape board.views w).done)
              ∙ ap (λ (x : List Ticket). (working_at shape board.views w).done ++ x) (sym (done-else w v working step ne))
        ]

    -- a worker's step that answers nothing
    same-times : (w : ℕ) (working new : Working) → Sits board (worker_seat shape w) (worker shape key w working) → new.done ≡ working.done → (s n : ℕ)
        → times_done s n (set board.views (worker_seat shape w) (worker shape key w new)) ≡ 0 + times_done s n board.views
    same-times w working new sits same s n =
        let e : times s n new.done ≡ times s n working.done = ap (times s n) same in
        let changed : times_done s n (set board.views (worker_seat shape w) (worker shape key w new)) + times s n working.done ≡ times_done s n board.views + times s n new.done =
        times-set s n board.views (worker_seat shape w) (worker shape key w working) (worker shape key w new) sits in
        omega arith

    -- the numbers that are done
    times-moved : (move : Move) → MayMove meaning shape key board move → (s n : ℕ)
        → times_done s n (moved shape key board move).views ≡ (if answers s n move then 1 else 0) + times_done s n board.views
    times-moved (Cuts cut) may s n =
        let same : times_done s n (moved shape key board (Cuts cut)).views ≡ times_done s n board.views = times-cut meaning shape key board state shows 0 cut may.0 may.1 s n in
        omega arith
    times-moved (Sends t asking step) may s n =
        let new : Asking = asking_after asking step (state_at shape board.words t (next_received asking)) (home_at shape board.homes t (next_received asking)) in
        let changed : times_done s n (set board.views (sender_seat t) (asker shape key t new)) + 0 ≡ times_done s n board.views + 0 =
        times-set s n board.views (sender_seat t) (asker shape key t asking) (asker shape key t new) may.0 in
        omega arith
    times-moved (Works w working (Answers t m query answer)) may s n =
        let new : Working = working_after shape working (Answers t m query answer) (get_or board.words (word_worked shape (Answers t m query answer)) 0) in
        let more : times s n new.done ≡ times s n working.done + (if is_same s n (t, m) then 1 else 0) = times-append s n working.done (t, m) in
        let changed : times_done s n (set board.views (worker_seat shape w) (worker shape key w new)) + times s n working.done ≡ times_done s n board.views + times s n new.done =
        times-set s n board.views (worker_seat shape w) (worker shape key w working) (worker shape key w new) may.0 in
        omega arith
    times-moved (Works w working step) may s n = grind (arith, same-times)

  -- ---- all moves

  module _ (words : List ℕ) where
    pub answered-done : (moves : List Move) → MayBeMade meaning shape key words moves → (s n : ℕ)
        → times_answered s n moves ≡ times_done s n (board_after shape key words moves).views
    answered-done [] may s n = refl
    answered-done (move ∷ moves) may s n = grind (arith, moves-show, times-moved, answered-done moves may.0 s n)

    done-all : (moves : List Move) → MayBeMade meaning shape key words moves → (w : ℕ)
        → (working_at shape (board_after shape key words moves).views w).done ≡ all_done_by w moves
    done-all [] may w = refl
    done-all (move ∷ moves) may w =
        let before = moves-show meaning shape key words moves may.0 in
        done-moved (board_after shape key words moves) before.0 before.1 move may.1 w
        ∙ ap (λ (x : List Ticket). x ++ done_by w move) (done-all moves may.0 w)

    pub done-once : (moves : List Move) → MayBeMade meaning shape key words moves → (w : ℕ)
        → IsDone w moves (working_at shape (board_after shape key words moves).views w).done
    done-once moves may w =
        let own = done-all moves may w in
        let now = moves-show meaning shape key words moves may in record {
          own = own;
          once = λ s n there.
              let all : times_answered s n moves ≡ once_finished (place_of (sender_at now.0 s) n) =
              answered-done moves may s n ∙ now.1.done s n in
              let counted : 1 ≤ times s n (all_done_by w moves) =
              contained s n (all_done_by w moves) (subst (λ (x : List Ticket). Contains x (s, n)) own there) in
              omega (arith, all, counted, own-times w s n moves, once-most (place_of (sender_at now.0 s) n));
        }

    pub grows-all : (more moves : List Move) → MayBeMade meaning shape key words (more ++ moves) → (s : ℕ) → s < shape.senders
        → Grows (asking_at (board_after shape key words moves).views s) (asking_at (board_after shape key words (more ++ moves)).views s)
    grows-all [] moves may s below = grind (arith, stays)
    grows-all (move ∷ more) moves may s below =
        grind (arith, moves-show, grows-on, asking-grows, grows-all more moves may.0 s below)

  -- what holds of a sender of the core holds of its view
  pub served : (board : Board) (core : State) → Shows meaning shape key board core → (s : ℕ) → s < shape.senders
      → IsRight meaning key (sender_at core s) → (length (sender_at core s).asked ≤ shape.most) × (outstanding (sender_at core s) ≤ shape.window)
      → IsServed meaning shape key (asking_at board.views s).asked (asking_at board.views s).received
  served board core shows s below right limits = grind (arith, right-list)

  -- a sender that has all answers
  pub at-end : (now later : Asking) → Grows now later → IsServed meaning shape key now.asked now.received
      → IsServed meaning shape key later.asked later.received → next_received now ≡ next_asked now → next_asked later ≡ next_asked now
      → IsAtEnd meaning key now later
  at-end now later grown served served' all same = grind (arith, take_all, no-more)
