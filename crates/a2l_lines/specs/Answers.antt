-- The answers that senders receive of a file, whatever the threads do.
use Rattle.std.specs.Prelude.{◌≡◌, ℕ, ◌<◌, ◌≤◌, List, ◌++◌, length, map, take, None}
use Rattle.std.specs.List.{Contains}
use Rattle.dw_model.specs.Refusal.{refusal}
use Rattle.dw_symbols.specs.Told.{meaning}
use Rattle.ticket_core.specs.declared.shape.Shape.{Shape}
use Rattle.ticket_board.specs.Ring.Views.{Asking, asking_at, working_at}
use Rattle.ticket_board.specs.Ring.Shows.{Board}
use Rattle.ticket_board.specs.Ring.Moves.{Move, board_after, MayBeMade}
use Rattle.ticket_board.specs.Ring.Laws.{times_answered}

-- a sender has received the file's answers to a beginning of its queries, in its order, each once;
-- `meaning file query` is what the definitions answer, as a tree of numbers
pub record HasReceived (file : List ℕ) (sender : Asking) : Type 0 where
  pub beginning : length sender.received ≤ length sender.asked
  pub answers : sender.received ≡ map (meaning file) (take (length sender.received) sender.asked)

-- it has received the answers to all its queries, and later neither these nor those are others
pub record HasReceivedAll (file : List ℕ) (sender later : Asking) : Type 0 where
  pub all : sender.received ≡ map (meaning file) sender.asked
  pub asked : later.asked ≡ sender.asked
  pub received : later.received ≡ sender.received

-- ---- after some moves

-- they may be made, on a board over the file that has this shape, and had these words when it was
-- opened
abbrev pub AreMovesOver : List ℕ → Shape → List ℕ → List Move → Type 0
AreMovesOver file shape words moves = MayBeMade meaning shape file words moves

-- every sender has received answers so
abbrev pub EachHasReceived : List ℕ → Shape → Board → Type 0
EachHasReceived file shape board = (s : ℕ) → s < shape.senders → HasReceived file (asking_at board.views s)

-- each number that some worker has done was answered by one move
abbrev pub EachIsDoneOnce : Shape → Board → List Move → Type 0
EachIsDoneOnce shape board moves =
    (w s n : ℕ) → Contains (working_at shape board.views w).done (s, n) → times_answered s n moves ≡ 1

-- a sender that has received as many answers as it asked queries, and asks no more, as one that is
-- closed, has received all, and stays so under all later moves
abbrev pub EachEndStays : List ℕ → Shape → List ℕ → List Move → Type 0
EachEndStays file shape words moves =
    (later : List Move) → AreMovesOver file shape words (later ++ moves) → (s : ℕ) → s < shape.senders
    → let sender = asking_at (board_after shape file words moves).views s in
    let after = asking_at (board_after shape file words (later ++ moves)).views s in
    length sender.received ≡ length sender.asked → length after.asked ≡ length sender.asked
    → HasReceivedAll file sender after

-- for every file that opens, every number of senders and workers, and all moves in any order
abbrev pub EverySenderReceivesAnswers : Type 0
EverySenderReceivesAnswers =
    (file : List ℕ) → refusal file ≡ None
    → (shape : Shape) (words : List ℕ) (moves : List Move) → AreMovesOver file shape words moves
    → EachHasReceived file shape (board_after shape file words moves)
    × EachIsDoneOnce shape (board_after shape file words moves) moves
    × EachEndStays file shape words moves
