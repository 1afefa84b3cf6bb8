-- What each move of the ring keeps, and what holds of a ring after any moves.
use Rattle.std.specs.Prelude.{◌≡◌, ℕ, ◌+◌, ◌-◌, ◌<◌, ◌≤◌, Bool, false, List, [], ◌∷◌, ◌++◌, length, map, take, Option}
use Rattle.std.specs.Prelude.{Some, None, nat_eq, if◌then◌else◌}
use Rattle.std.specs.List.{Contains}
use Rattle.ticket_core.specs.declared.query.Query.{Query}
use Rattle.ticket_core.specs.declared.shape.Shape.{Shape}
use Rattle.ticket_core.specs.State.{Shown, Meaning, State, Ticket, sender_at, place_of, opening}
use Rattle.ticket_core.specs.Shape.{Fits}
use Rattle.ticket_core.specs.Events.{Event, Step}
use Rattle.ticket_core.specs.Runs.{Reaches, once_finished}
use Rattle.ticket_board.specs.Ring.Views.{Asking, Working, worker, worker_seat, asking_at, working_at, next_asked}
use Rattle.ticket_board.specs.Ring.Views.{next_received}
use Rattle.ticket_board.specs.Ring.Shows.{Board, Sits, is_same, Shows}
use Rattle.ticket_board.specs.Ring.Steps.{Answers}
use Rattle.ticket_board.specs.Ring.Opening.{AreFree, opened}
use Rattle.ticket_board.specs.Ring.Moves.{Move, Works, MayMove, moved, event_of, board_after, MayBeMade, events_of}

-- ---- one move

-- the event could happen, and leads from the one state to the other; without one the state stays
abbrev pub Leads : Meaning → Option Event → State → State → Type 0
Leads meaning None old new = new ≡ old
Leads meaning (Some event) old new = Step meaning event old new

-- the ring shows the same state, or the one after the event
abbrev pub ShowsAfter : Meaning → Shape → List ℕ → Option Event → State → Board → Type 0
ShowsAfter meaning shape key event old board =
    (new : State) × Leads meaning event old new × Shows meaning shape key board new

-- a move that may be made
unfoldable pub MoveLaw : Meaning → Move → Type 0
MoveLaw meaning move =
    (shape : Shape) (key : List ℕ) (board : Board) (state : State)
    → Shows meaning shape key board state → MayMove meaning shape key board move
    → ShowsAfter meaning shape key (event_of shape board move) state (moved shape key board move)

-- the opened ring shows the opening state
unfoldable pub OpeningLaw : Meaning → Type 0
OpeningLaw meaning =
    (shape : Shape) (key words : List ℕ) → Fits shape → AreFree shape words
    → Shows meaning shape key (opened shape key words) (opening shape key)

-- ---- all moves since a ring was opened

-- what is said of these moves holds of any that may be made, on a ring of whatever shape and key
abbrev pub OfAllMoves : Meaning → (Shape → List ℕ → List ℕ → List Move → Type 0) → Type 0
OfAllMoves meaning Said =
    (shape : Shape) (key words : List ℕ) (moves : List Move) → MayBeMade meaning shape key words moves
    → Said shape key words moves

-- the ring shows a state of the core, to which the events that the moves are lead
abbrev pub ShowsReached : Meaning → Shape → List ℕ → List ℕ → List Move → Type 0
ShowsReached meaning shape key words moves =
    (core : State) × Shows meaning shape key (board_after shape key words moves) core
    × Reaches meaning shape key (events_of shape key words moves) core

-- what a sender received is a beginning of the meanings of what it asked, in its order; and it
-- keeps its limits
pub record IsServed (meaning : Meaning) (shape : Shape) (key : List ℕ) (asked : List Query)
    (received : List Shown) : Type 0 where
  pub within : length received ≤ length asked
  pub right : received ≡ map (meaning key) (take (length received) asked)
  pub window : length asked - length received ≤ shape.window
  pub most : length asked ≤ shape.most

-- each sender is served so
abbrev pub AreServed : Meaning → Shape → List ℕ → List ℕ → List Move → Type 0
AreServed meaning shape key words moves =
    let views = (board_after shape key words moves).views in
    (s : ℕ) → s < shape.senders
    → IsServed meaning shape key (asking_at views s).asked (asking_at views s).received

-- how many of the moves answer a number
abbrev pub answers : ℕ → ℕ → Move → Bool
answers s n (Works w working (Answers sender number query answer)) = is_same s n (sender, number)
answers s n _ = false

abbrev pub times_answered : ℕ → ℕ → List Move → ℕ
times_answered s n [] = 0
times_answered s n (move ∷ moves) = (if answers s n move then 1 else 0) + times_answered s n moves

-- each number that is answered or received was answered by just one of the moves, every other by
-- none
abbrev pub AnsweredOnce : Meaning → Shape → List ℕ → List ℕ → List Move → Type 0
AnsweredOnce meaning shape key words moves =
    (core : State) → Shows meaning shape key (board_after shape key words moves) core
    → (s n : ℕ) → times_answered s n moves ≡ once_finished (place_of (sender_at core s) n)

-- what a move answers as one of this worker's, and what all of these moves do, in their order
abbrev pub done_by : ℕ → Move → List Ticket
done_by w (Works v working (Answers s n query answer)) = if nat_eq v w then (s, n) ∷ [] else []
done_by w _ = []

abbrev pub all_done_by : ℕ → List Move → List Ticket
all_done_by w [] = []
all_done_by w (move ∷ moves) = all_done_by w moves ++ done_by w move

-- what a worker has done is what its own moves answered, in their order; and each of these numbers
-- was answered by just one of all the moves
pub record IsDone (w : ℕ) (moves : List Move) (done : List Ticket) : Type 0 where
  pub own : done ≡ all_done_by w moves
  pub once : (s n : ℕ) → Contains done (s, n) → times_answered s n moves ≡ 1

-- so it is of each worker
abbrev pub AreDone : Shape → List ℕ → List ℕ → List Move → Type 0
AreDone shape key words moves =
    (w : ℕ) → IsDone w moves (working_at shape (board_after shape key words moves).views w).done

-- some moves make a ring on which a worker knows this, and what it has done is so by these moves
abbrev pub WorkOccurs : Meaning → Shape → List ℕ → ℕ → Working → Type 0
WorkOccurs meaning shape key w working =
    (words : List ℕ) × (moves : List Move) × MayBeMade meaning shape key words moves
    × Sits (board_after shape key words moves) (worker_seat shape w) (worker shape key w working)
    × IsDone w moves working.done

-- it received all answers, and later its lists are as they were
pub record IsAtEnd (meaning : Meaning) (key : List ℕ) (now later : Asking) : Type 0 where
  pub all : now.received ≡ map (meaning key) now.asked
  pub asked : later.asked ≡ now.asked
  pub received : later.received ≡ now.received

-- so does a sender that received as much as it asked, and asks no more in later moves
abbrev pub EndStays : Meaning → Shape → List ℕ → List ℕ → List Move → Type 0
EndStays meaning shape key words moves =
    (more : List Move) → MayBeMade meaning shape key words (more ++ moves) → (s : ℕ) → s < shape.senders
    → let now = asking_at (board_after shape key words moves).views s in
    let later = asking_at (board_after shape key words (more ++ moves)).views s in
    next_received now ≡ next_asked now → next_asked later ≡ next_asked now → IsAtEnd meaning key now later
