-- The steps of the ring, each on one word by one seat: when a step may be made, what it changes,
-- and which event it is.
use Rattle.std.specs.Prelude.{◌≡◌, ℕ, ◌+◌, ◌/◌, ◌%◌, ◌<◌, Bool, true, false, List, [], ◌∷◌, ◌++◌, slice_index_or}
use Rattle.std.specs.Prelude.{slice_set, Option, Some, None, nat_eq, if◌then◌else◌}
use Rattle.ticket_core.specs.declared.query.Query.{Query}
use Rattle.ticket_core.specs.declared.shape.Shape.{Shape}
use Rattle.ticket_core.specs.Query.{IsQuery, first_word, second_word, of_words}
use Rattle.ticket_core.specs.State.{Shown, Meaning}
use Rattle.ticket_core.specs.Events.{Event, Ask, Take, Finish, GiveBack, Collect}
use Rattle.ticket_board.specs.Ring.Layout.{cells_in, cell_of, state_field, word_of, state_place, first_place}
use Rattle.ticket_board.specs.Ring.Layout.{second_place, state_at, free_word, asked_word, taken_word, answered_word}
use Rattle.ticket_board.specs.Ring.Layout.{collecting_word}
use Rattle.ticket_board.specs.Ring.Homes.{Home, Out, Empty, Full, home_at, answer_at_home}
use Rattle.ticket_board.specs.Ring.Views.{Nothing, FirstWord, Whole, Asking, Working, next_asked, next_received}
use Rattle.ticket_board.specs.Ring.Views.{HasRoom, asker, worker}
use Rattle.ticket_board.specs.Ring.Shows.{Board}

-- ---- a sender's steps

pub data SenderStep : Type 0 where
  -- stores the first word of a query in the cell of the number that it asks next
  WritesFirst : (word : ℕ) → SenderStep
  -- stores the second word of that query
  WritesSecond : (query : Query) → SenderStep
  -- stores that this number waits
  Publishes : (query : Query) → SenderStep
  -- loads the state of the number that it receives next
  LooksNext : SenderStep
  -- stores that this number's answer is on its way out, and takes the slot
  BringsOut : SenderStep
  -- stores that the cell is free for a later number, and gives the empty slot back
  Receives : (answer : Shown) → SenderStep

-- when the step may be made
abbrev pub MaySend : Shape → Asking → SenderStep → Type 0
MaySend shape asking (WritesFirst word) = HasRoom shape asking
MaySend shape asking (WritesSecond query) = (asking.ahead ≡ FirstWord (first_word query)) × IsQuery query
MaySend shape asking (Publishes query) = asking.ahead ≡ Whole query
MaySend shape asking LooksNext = asking.collecting ≡ None
MaySend shape asking BringsOut = asking.found ≡ true
MaySend shape asking (Receives answer) = asking.collecting ≡ Some answer

-- the words after it
abbrev pub words_sent : Shape → ℕ → Asking → SenderStep → List ℕ → List ℕ
words_sent shape s asking (WritesFirst word) words = slice_set words (first_place shape s (next_asked asking)) word
words_sent shape s asking (WritesSecond query) words =
    slice_set words (second_place shape s (next_asked asking)) (second_word query)
words_sent shape s asking (Publishes query) words =
    slice_set words (state_place shape s (next_asked asking)) (asked_word (next_asked asking))
words_sent shape s asking LooksNext words = words
words_sent shape s asking BringsOut words =
    slice_set words (state_place shape s (next_received asking)) (collecting_word (next_received asking))
words_sent shape s asking (Receives answer) words =
    slice_set words (state_place shape s (next_received asking)) (free_word (next_received asking + shape.window))

-- the slots after it
abbrev pub homes_sent : Shape → ℕ → Asking → SenderStep → List Home → List Home
homes_sent shape s asking BringsOut homes = slice_set homes (cell_of shape s (next_received asking)) Out
homes_sent shape s asking (Receives answer) homes = slice_set homes (cell_of shape s (next_received asking)) Empty
homes_sent shape s asking _ homes = homes

-- the next number to be received is answered, by this state word
abbrev pub is_answered_word : Asking → ℕ → Bool
is_answered_word asking word = nat_eq word (answered_word (next_received asking))

-- what the sender knows after it; of the number that it receives next, this is the state word, and
-- this lies in the slot
abbrev pub asking_after : Asking → SenderStep → ℕ → Home → Asking
asking_after asking (WritesFirst first) word home = record asking { ahead = FirstWord first }
asking_after asking (WritesSecond query) word home = record asking { ahead = Whole query }
asking_after asking (Publishes query) word home = record asking { asked = asking.asked ++ query ∷ []; ahead = Nothing }
asking_after asking LooksNext word home = record asking {
  found = is_answered_word asking word;
  missed = if is_answered_word asking word then asking.missed else asking.missed ++ next_received asking ∷ [];
}
asking_after asking BringsOut word home = record asking { found = false; collecting = Some (answer_at_home home) }
asking_after asking (Receives answer) word home = record asking {
  received = asking.received ++ answer ∷ [];
  collecting = None;
}

-- the ring after it
abbrev pub sent : Shape → List ℕ → ℕ → ℕ → Asking → SenderStep → Board → Board
sent shape key seat s asking step board = record {
  words = words_sent shape s asking step board.words;
  homes = homes_sent shape s asking step board.homes;
  views = slice_set board.views seat (asker shape key s
      (asking_after asking step (state_at shape board.words s (next_received asking))
      (home_at shape board.homes s (next_received asking))));
}

-- the event of the core that it is, if it is one
abbrev pub event_sent : ℕ → SenderStep → Option Event
event_sent s (Publishes query) = Some (Ask s query)
event_sent s (Receives answer) = Some (Collect s)
event_sent s _ = None

-- ---- a worker's steps

pub data WorkerStep : Type 0 where
  -- loads the state word of a cell
  LooksAt : (cell : ℕ) → WorkerStep
  -- exchanges the word that says that the number waits for one that says that it is taken, in one
  -- try; and takes the slot
  Takes : (s n : ℕ) → WorkerStep
  -- loads the first word of the query of the number in its hand
  ReadsFirst : (s n : ℕ) → WorkerStep
  -- loads the second word of that query, of which it read this first word
  ReadsSecond : (s n first : ℕ) → WorkerStep
  -- stores that this number is answered, and gives the slot back with the answer
  Answers : (s n : ℕ) (query : Query) (answer : Shown) → WorkerStep
  -- stores that this number waits, and gives the empty slot back
  GivesBack : (s n : ℕ) → WorkerStep

-- when the step may be made
abbrev pub MayWork : Meaning → Shape → List ℕ → Working → WorkerStep → Type 0
MayWork meaning shape key working (LooksAt cell) = (working.hand ≡ None) × (cell < cells_in shape)
MayWork meaning shape key working (Takes s n) = (working.hand ≡ None) × (working.seen ≡ Some (s, n))
MayWork meaning shape key working (ReadsFirst s n) = working.hand ≡ Some (s, n)
MayWork meaning shape key working (ReadsSecond s n first) =
    (working.hand ≡ Some (s, n)) × (working.read ≡ FirstWord first)
MayWork meaning shape key working (Answers s n query answer) =
    (working.hand ≡ Some (s, n)) × (working.read ≡ Whole query) × (answer ≡ meaning key query)
MayWork meaning shape key working (GivesBack s n) = working.hand ≡ Some (s, n)

-- the index of the word on which it is made
abbrev pub word_worked : Shape → WorkerStep → ℕ
word_worked shape (LooksAt cell) = word_of cell state_field
word_worked shape (Takes s n) = state_place shape s n
word_worked shape (ReadsFirst s n) = first_place shape s n
word_worked shape (ReadsSecond s n first) = second_place shape s n
word_worked shape (Answers s n query answer) = state_place shape s n
word_worked shape (GivesBack s n) = state_place shape s n

-- the words after it, where it found this one
abbrev pub words_worked : Shape → WorkerStep → ℕ → List ℕ → List ℕ
words_worked shape (Takes s n) word words =
    if nat_eq word (asked_word n) then slice_set words (state_place shape s n) (taken_word n) else words
words_worked shape (Answers s n query answer) word words = slice_set words (state_place shape s n) (answered_word n)
words_worked shape (GivesBack s n) word words = slice_set words (state_place shape s n) (asked_word n)
words_worked shape _ word words = words

-- the slots after it
abbrev pub homes_worked : Shape → WorkerStep → ℕ → List Home → List Home
homes_worked shape (Takes s n) word homes =
    if nat_eq word (asked_word n) then slice_set homes (cell_of shape s n) Out else homes
homes_worked shape (Answers s n query answer) word homes = slice_set homes (cell_of shape s n) (Full answer)
homes_worked shape (GivesBack s n) word homes = slice_set homes (cell_of shape s n) Empty
homes_worked shape _ word homes = homes

-- a state word says that its number waits
abbrev pub is_asked_word : ℕ → Bool
is_asked_word word = nat_eq (word % 8) 1

-- what the worker knows after it
abbrev pub working_after : Shape → Working → WorkerStep → ℕ → Working
working_after shape working (LooksAt cell) word = record working {
  seen = if is_asked_word word then Some (cell / shape.window, word / 8) else None;
  missed = if is_asked_word word then working.missed else working.missed ++ cell ∷ [];
}
working_after shape working (Takes s n) word = record working {
  hand = if nat_eq word (asked_word n) then Some (s, n) else None;
  read = Nothing;
  seen = None;
  missed = if nat_eq word (asked_word n) then working.missed else working.missed ++ cell_of shape s n ∷ [];
}
working_after shape working (ReadsFirst s n) word = record working { read = FirstWord word }
working_after shape working (ReadsSecond s n first) word = record working { read = Whole (of_words first word) }
working_after shape working (Answers s n query answer) word = record working {
  hand = None;
  read = Nothing;
  done = working.done ++ (s, n) ∷ [];
}
working_after shape working (GivesBack s n) word = record working {
  hand = None;
  read = Nothing;
  returned = working.returned ++ (s, n) ∷ [];
}

-- the ring after it
abbrev pub worked : Shape → List ℕ → ℕ → ℕ → Working → WorkerStep → Board → Board
worked shape key seat w working step board = record {
  words = words_worked shape step (slice_index_or board.words (word_worked shape step) 0) board.words;
  homes = homes_worked shape step (slice_index_or board.words (word_worked shape step) 0) board.homes;
  views = slice_set board.views seat (worker shape key w
      (working_after shape working step (slice_index_or board.words (word_worked shape step) 0)));
}

-- the event of the core that it is, if it is one
abbrev pub event_worked : ℕ → WorkerStep → ℕ → Option Event
event_worked w (Takes s n) word = if nat_eq word (asked_word n) then Some (Take w s n) else None
event_worked w (Answers s n query answer) word = Some (Finish w)
event_worked w (GivesBack s n) word = Some (GiveBack w)
event_worked w _ word = None
