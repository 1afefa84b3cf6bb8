-- Which state of the core the ring shows.
use Rattle.std.specs.Prelude.{◌≡◌, ◌≢◌, ℕ, suc, ◌+◌, ◌<◌, ◌≤◌, ◌⊎◌, Bool, true, false, ◌&&◌, List, [], ◌∷◌, length}
use Rattle.std.specs.Prelude.{Option, Some, nat_eq, if◌then◌else◌}
use mathlib.Core.Option.{some}
use lib.ListN.{get_elem?}
use Rattle.ticket_core.specs.declared.query.Query.{Query}
use Rattle.ticket_core.specs.declared.shape.Shape.{Shape}
use Rattle.ticket_core.specs.Query.{IsQuery, first_word, second_word}
use Rattle.ticket_core.specs.State.{Shown, Meaning, Place, Unasked, Waiting, Held, Answered, Collected, Sender, Ticket}
use Rattle.ticket_core.specs.State.{State, sender_at, hand_at, place_of, query_of}
use Rattle.ticket_core.specs.Shape.{Fits}
use Rattle.ticket_core.specs.Sound.{IsSound}
use Rattle.ticket_core.specs.Runs.{once_finished}
use Rattle.ticket_board.specs.Ring.Layout.{cells_in, words_in, state_at, first_at, second_at, free_word, asked_word}
use Rattle.ticket_board.specs.Ring.Layout.{taken_word, answered_word, collecting_word}
use Rattle.ticket_board.specs.Ring.Homes.{Home, Out, Empty, Full, home_at}
use Rattle.ticket_board.specs.Ring.Views.{Known, Nothing, FirstWord, Whole, Asking, Working, Role, Opens, Asks, Works}
use Rattle.ticket_board.specs.Ring.Views.{View, next_asked, next_received, HasRoom, sender_seat, worker_seat, asking_at}
use Rattle.ticket_board.specs.Ring.Views.{working_at, working_of}

-- what the ring is made of: its words, its slots, and what each seat knows
pub record Board : Type 0 where
  pub words : List ℕ
  pub homes : List Home
  pub views : List View

-- ---- a cell

-- the answer lies in the slot, or, of the next number, on its way out of it
abbrev pub AnswerShows : ℕ → ℕ → Option Shown → Shown → ℕ → Home → Type 0
AnswerShows n next collecting answer word home =
    ((word ≡ answered_word n) × (home ≡ Full answer))
    ⊎ ((word ≡ collecting_word n) × (home ≡ Out) × (n ≡ next) × (collecting ≡ Some answer))

-- the state word and the slot of the number n, by where it is
abbrev pub CellShows : ℕ → ℕ → Option Shown → Place → ℕ → Home → Type 0
CellShows n next collecting Unasked word home = (word ≡ free_word n) × (home ≡ Empty)
CellShows n next collecting Waiting word home = (word ≡ asked_word n) × (home ≡ Empty)
CellShows n next collecting (Held w) word home = (word ≡ taken_word n) × (home ≡ Out)
CellShows n next collecting (Answered answer) word home = AnswerShows n next collecting answer word home
CellShows n next collecting Collected word home = ⊥

-- ---- the words of a query

-- the two words are this query's
abbrev pub HasWords : Query → ℕ → ℕ → Type 0
HasWords query first second = (first ≡ first_word query) × (second ≡ second_word query) × IsQuery query

-- of a query that is written ahead, the words that are known are there
abbrev pub IsAhead : Known → ℕ → ℕ → Type 0
IsAhead Nothing first second = Unit {0}
IsAhead (FirstWord word) first second = first ≡ word
IsAhead (Whole query) first second = HasWords query first second

-- what is known of a query is this query's
abbrev pub IsKnown : Known → Query → Type 0
IsKnown Nothing query = Unit {0}
IsKnown (FirstWord word) query = word ≡ first_word query
IsKnown (Whole known) query = known ≡ query

-- ---- a sender, with the words and the slot of each of its numbers

pub record SenderShows (shape : Shape) (state first second : ℕ → ℕ) (home : ℕ → Home) (asking : Asking)
    (sender : Sender) : Type 0 where
  pub asked : sender.asked ≡ asking.asked
  pub received : sender.received ≡ asking.received
  -- closing is in the client alone
  pub stays_open : sender.closed ≡ false
  -- the cells are those of the numbers from the next one to be received on
  pub cells : (n : ℕ) → next_received asking ≤ n → n < next_received asking + shape.window
      → CellShows n (next_received asking) asking.collecting (place_of sender n) (state n) (home n)
  -- and hold both words of each query that was asked
  pub words : (n : ℕ) → next_received asking ≤ n → n < next_asked asking
      → HasWords (query_of sender n) (first n) (second n)
  -- the cell of the next number holds what is written ahead, which is written only where one more
  -- may be asked
  pub ahead : IsAhead asking.ahead (first (next_asked asking)) (second (next_asked asking))
  pub room : asking.ahead ≢ Nothing → HasRoom shape asking
  pub found : asking.found ≡ true → state (next_received asking) ≡ answered_word (next_received asking)
  pub collecting : (answer : Shown) → asking.collecting ≡ Some answer
      → state (next_received asking) ≡ collecting_word (next_received asking)

-- ---- a worker

pub record WorkerShows (shape : Shape) (state : State) (w : ℕ) (working : Working) : Type 0 where
  pub hand : hand_at state w ≡ working.hand
  -- what it read is of the query that was asked
  pub read : (s n : ℕ) → working.hand ≡ Some (s, n) → IsKnown working.read (query_of (sender_at state s) n)
  -- what it saw is some sender's
  pub seen : (s n : ℕ) → working.seen ≡ Some (s, n) → s < shape.senders

-- ---- seats

-- where a seat of this role is among so many
abbrev pub StandsAt : Shape → ℕ → ℕ → Role → Type 0
StandsAt shape seats seat (Opens cut) = (seat ≡ 0) × (seats ≡ suc cut)
StandsAt shape seats seat (Asks s asking) = (seat ≡ sender_seat s) × (s < shape.senders)
StandsAt shape seats seat (Works w working) = (seat ≡ worker_seat shape w) × (w < shape.workers)

-- a seat knows the shape and the key
pub record Seated (shape : Shape) (key : List ℕ) (seats seat : ℕ) (view : View) : Type 0 where
  pub shape_is : view.shape ≡ shape
  pub key_is : view.key ≡ key
  pub stands : StandsAt shape seats seat view.role

-- the seat knows this
abbrev pub Sits : Board → ℕ → View → Type 0
Sits board seat view = get_elem? board.views seat ≡ some view

-- ---- what was answered

abbrev pub is_same : ℕ → ℕ → Ticket → Bool
is_same s n ticket = nat_eq ticket.0 s && nat_eq ticket.1 n

-- how often the number is in a list
abbrev pub times : ℕ → ℕ → List Ticket → ℕ
times s n [] = 0
times s n (ticket ∷ tickets) = (if is_same s n ticket then 1 else 0) + times s n tickets

-- how often it is in the lists of all workers
abbrev pub times_done : ℕ → ℕ → List View → ℕ
times_done s n [] = 0
times_done s n (view ∷ views) = times s n (working_of view.role).done + times_done s n views

-- ---- the whole ring

pub record Shows (meaning : Meaning) (shape : Shape) (key : List ℕ) (board : Board) (state : State) : Type 0 where
  pub shape_is : state.shape ≡ shape
  pub key_is : state.key ≡ key
  pub fits : Fits shape
  pub sound : IsSound meaning state
  pub words : length board.words ≡ words_in shape
  pub homes : length board.homes ≡ cells_in shape
  pub seated : (seat : ℕ) (view : View) → Sits board seat view → Seated shape key (length board.views) seat view
  pub senders : (s : ℕ) → s < shape.senders
      → SenderShows shape (state_at shape board.words s) (first_at shape board.words s) (second_at shape board.words s)
      (home_at shape board.homes s) (asking_at board.views s) (sender_at state s)
  pub workers : (w : ℕ) → WorkerShows shape state w (working_at shape board.views w)
  -- each number that is answered or received was answered once, and every other never
  pub done : (s n : ℕ) → times_done s n board.views ≡ once_finished (place_of (sender_at state s) n)
