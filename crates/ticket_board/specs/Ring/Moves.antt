-- The moves by which a ring is made, each by the seat that makes it: the seats that are cut off,
-- and the steps of senders and workers. A list of moves has the newest first.
use Rattle.std.specs.Prelude.{◌≡◌, ℕ, suc, ◌+◌, ◌<◌, List, [], ◌∷◌, ◌++◌, length, Option, Some, None, slice_index_or}
use Rattle.std.specs.Prelude.{slice_set}
use Rattle.ticket_core.specs.declared.shape.Shape.{Shape}
use Rattle.ticket_core.specs.Shape.{Fits}
use Rattle.ticket_core.specs.State.{Meaning}
use Rattle.ticket_core.specs.Events.{Event}
use Rattle.ticket_board.specs.Ring.Views.{Asking, Working, View, opener, asker, worker, sender_seat, worker_seat}
use Rattle.ticket_board.specs.Ring.Views.{seat_of}
use Rattle.ticket_board.specs.Ring.Shows.{Board, Sits}
use Rattle.ticket_board.specs.Ring.Steps.{SenderStep, WorkerStep, MaySend, MayWork, sent, worked, event_sent}
use Rattle.ticket_board.specs.Ring.Steps.{event_worked, word_worked}
use Rattle.ticket_board.specs.Ring.Opening.{AreFree, opened, cut_off}

pub data Move : Type 0 where
  -- the next seat is cut off from the opening one, from which so many were cut off before
  Cuts : (cut : ℕ) → Move
  -- a sender that knows this makes a step
  Sends : (s : ℕ) (asking : Asking) (step : SenderStep) → Move
  -- a worker that knows this makes a step
  Works : (w : ℕ) (working : Working) (step : WorkerStep) → Move

-- ---- one move

-- it may be made: its seat knows this, and the step may be made by one that does
abbrev pub MayMove : Meaning → Shape → List ℕ → Board → Move → Type 0
MayMove meaning shape key board (Cuts cut) =
    Sits board 0 (opener shape key cut) × (cut < shape.senders + shape.workers)
MayMove meaning shape key board (Sends s asking step) =
    Sits board (sender_seat s) (asker shape key s asking) × MaySend shape asking step
MayMove meaning shape key board (Works w working step) =
    Sits board (worker_seat shape w) (worker shape key w working) × MayWork meaning shape key working step

-- the ring after it
abbrev pub moved : Shape → List ℕ → Board → Move → Board
moved shape key board (Cuts cut) = cut_off shape key 0 cut board
moved shape key board (Sends s asking step) = sent shape key (sender_seat s) s asking step board
moved shape key board (Works w working step) = worked shape key (worker_seat shape w) w working step board

-- the event of the core that it is, if it is one
abbrev pub event_of : Shape → Board → Move → Option Event
event_of shape board (Cuts cut) = None
event_of shape board (Sends s asking step) = event_sent s step
event_of shape board (Works w working step) =
    event_worked w step (slice_index_or board.words (word_worked shape step) 0)

-- ---- all moves since a ring was opened with these words

-- the ring after them
abbrev pub board_after : Shape → List ℕ → List ℕ → List Move → Board
board_after shape key words [] = opened shape key words
board_after shape key words (move ∷ moves) = moved shape key (board_after shape key words moves) move

-- they may be made: the words are free, and each move may be made where it is
abbrev pub MayBeMade : Meaning → Shape → List ℕ → List ℕ → List Move → Type 0
MayBeMade meaning shape key words [] = Fits shape × AreFree shape words
MayBeMade meaning shape key words (move ∷ moves) =
    MayBeMade meaning shape key words moves × MayMove meaning shape key (board_after shape key words moves) move

-- the events that they are, the oldest first
abbrev pub then_event : List Event → Option Event → List Event
then_event events None = events
then_event events (Some event) = events ++ event ∷ []

abbrev pub events_of : Shape → List ℕ → List ℕ → List Move → List Event
events_of shape key words [] = []
events_of shape key words (move ∷ moves) =
    then_event (events_of shape key words moves) (event_of shape (board_after shape key words moves) move)

-- ---- the rule of the ring's table

-- of each seat, how many moves had been made with its last step, where these many are made with
-- this one; 0 where it made none
abbrev pub stamps_moved : Shape → ℕ → List ℕ → Move → List ℕ
stamps_moved shape made stamps (Cuts cut) = slice_set stamps 0 0 ++ 0 ∷ []
stamps_moved shape made stamps (Sends s asking step) = slice_set stamps (sender_seat s) made
stamps_moved shape made stamps (Works w working step) = slice_set stamps (worker_seat shape w) made

abbrev pub stamps_after : Shape → List Move → List ℕ
stamps_after shape [] = 0 ∷ []
stamps_after shape (move ∷ moves) = stamps_moved shape (suc (length moves)) (stamps_after shape moves) move

-- these moves made the ring what it is, and each seat knows when it made its last step
pub record IsMadeBy (meaning : Meaning) (shape : Shape) (key words : List ℕ) (moves : List Move) (board : Board)
    (stamps : List ℕ) : Type 0 where
  pub may : MayBeMade meaning shape key words moves
  pub is : board ≡ board_after shape key words moves
  pub stamps_are : stamps ≡ stamps_after shape moves

-- some moves made it
abbrev pub IsMade : Meaning → Shape → List ℕ → Board → List ℕ → Type 0
IsMade meaning shape key board stamps =
    (words : List ℕ) × (moves : List Move) × IsMadeBy meaning shape key words moves board stamps

-- ---- one view

-- some moves make a ring on which a seat knows this
abbrev pub Occurs : Meaning → View → Type 0
Occurs meaning view =
    (words : List ℕ) × (moves : List Move) × MayBeMade meaning view.shape view.key words moves
    × Sits (board_after view.shape view.key words moves) (seat_of view.shape view.role) view
