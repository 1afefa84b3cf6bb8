-- The rule of the ring's table: its words, slots and views are what some moves made of them.
use Rattle.std.specs.Prelude.{◌≡◌, ℕ, suc, ◌/◌, ◌%◌, ◌<◌, List, ◌∷◌, map, Option, Some, None, unwrap_or, slice_index_or}
use Rattle.std.specs.Prelude.{nat_eq, if◌then◌else◌}
use base.Stored.{gnil}
use mathlib.Core.Option as maybe
use Rattle.atomic_table.specs.Table as table
use Rattle.atomic_table.specs.Seated.{TableId}
use Rattle.ticket_core.specs.declared.query.Query.{Query}
use Rattle.ticket_core.specs.declared.query.QueryKind.TheVariants.{Address}
use Rattle.ticket_core.specs.declared.shape.Shape.{Shape}
use Rattle.ticket_core.specs.Query.{AreWords, of_words}
use Rattle.ticket_core.specs.State.{Shown, Meaning, Ticket}
use Rattle.ticket_board.specs.Ring.Layout.{cell_of, asked_word}
use Rattle.ticket_board.specs.Ring.Homes.{Home, Out, Empty, Full}
use Rattle.ticket_board.specs.Ring.Views.{Asking, Working, Role, Opens, Asks, Works, View, Stamped, stamped, opener}
use Rattle.ticket_board.specs.Ring.Views.{asker, worker, first_known, query_known, asking_of, working_of, next_asked}
use Rattle.ticket_board.specs.Ring.Views.{next_received}
use Rattle.ticket_board.specs.Ring.Shows.{Board}
use Rattle.ticket_board.specs.Ring.Steps.{SenderStep, BringsOut, WorkerStep, LooksAt, Takes, ReadsFirst, ReadsSecond}
use Rattle.ticket_board.specs.Ring.Steps.{Answers, GivesBack, asking_after, working_after}
use Rattle.ticket_board.specs.Ring.Opening.{next_seat}
use Rattle.ticket_board.specs.Ring.Moves.{IsMade}

-- a slot of the table: out with a seat, or with an answer or none
abbrev pub home_shown : {A : Type 0} → (A → Shown) → maybe.Option (Option A) → Home
home_shown shown maybe.none = Out
home_shown shown (maybe.some None) = Empty
home_shown shown (maybe.some (Some answer)) = Full (shown answer)

abbrev pub views_of : List Stamped → List View
views_of known = map (λ (x : Stamped). x.view) known

abbrev pub lasts_of : List Stamped → List ℕ
lasts_of known = map (λ (x : Stamped). x.last) known

abbrev pub board_shown : {A : Type 0} → (A → Shown) → table.State (Option A) Stamped → Board
board_shown shown state = record {
  words = state.words;
  homes = map (home_shown shown) state.homes;
  views = views_of state.views;
}

abbrev pub Holds : {A : Type 0} → (A → Shown) → Meaning → Shape → List ℕ → table.State (Option A) Stamped → Type 0
Holds shown meaning shape key state = IsMade meaning shape key (board_shown shown state) (lasts_of state.views)

-- ---- whose seat it is

abbrev pub sender_of : Role → ℕ
sender_of (Asks s asking) = s
sender_of _ = 0

abbrev pub IsSender : Role → Type 0
IsSender (Asks s asking) = Unit {0}
IsSender _ = ⊥

abbrev pub worker_of : Role → ℕ
worker_of (Works w working) = w
worker_of _ = 0

abbrev pub IsWorker : Role → Type 0
IsWorker (Works w working) = Unit {0}
IsWorker _ = ⊥

-- how many seats were cut off from it
abbrev pub cut_of : Role → ℕ
cut_of (Opens cut) = cut
cut_of _ = 0

-- ---- what it knows

-- the query that a sender wrote ahead; and where it wrote the first word alone, the query of that
-- and this second word
abbrev pub ahead_of : Role → Query
ahead_of role = query_known (asking_of role).ahead

abbrev pub ahead_with : Role → ℕ → Query
ahead_with role second = of_words (first_known (asking_of role).ahead) second

-- the answer that is in a sender's hand
abbrev pub collecting_of : Role → Shown
collecting_of role = unwrap_or (asking_of role).collecting gnil

-- the number that a worker saw asked, and the one in its hand, with its query, or the first word of
-- that, where no more is read
abbrev pub seen_of : Role → Ticket
seen_of role = unwrap_or (working_of role).seen (0, 0)

abbrev pub hand_of : Role → Ticket
hand_of role = unwrap_or (working_of role).hand (0, 0)

abbrev pub read_of : Role → Query
read_of role = query_known (working_of role).read

abbrev pub first_read_of : Role → ℕ
first_read_of role = first_known (working_of role).read

-- ---- what a seat knows by a step that it makes

-- the state word of a cell is of a number that uses this cell
abbrev pub IsOfCell : Shape → ℕ → ℕ → Type 0
IsOfCell shape cell word = word / 8 % shape.window ≡ cell % shape.window

-- a step of a seat of this table on a word that the table has
abbrev pub IsAt : ℕ → TableId → TableId → Type 0
IsAt word seat table = (seat ≡ table) × (word < table.words)

-- a seat: what it knows, and the slots that are out with it
abbrev pub Mine : Type 0 → Type 0
Mine A = table.Me (Option A) Stamped

module _ {A : Type 0} where
  -- the slot that it took last is this cell's, with this in it
  abbrev pub CarriesFirst : ℕ → Option A → Mine A → Type 0
  CarriesFirst cell value me = me.1 ≡ (cell, value) ∷ table.rest me.1

  -- that slot with something else in it
  abbrev pub carries : ℕ → Option A → Mine A → Mine A
  carries cell value me = (me.0, (cell, value) ∷ table.rest me.1)

  -- it is that of the number in a worker's hand, and has the meaning of the query that was asked
  abbrev pub CarriesMeaning : (A → Shown) → Meaning → Mine A → Type 0
  CarriesMeaning shown meaning me =
      (answer : A)
      × CarriesFirst (cell_of me.0.view.shape (hand_of me.0.view.role).0 (hand_of me.0.view.role).1) (Some answer) me
      × (shown answer ≡ meaning me.0.view.key (read_of me.0.view.role))

  -- what it knows as a sender and as a worker
  abbrev pub asking_in : Mine A → Asking
  asking_in me = asking_of me.0.view.role

  abbrev pub working_in : Mine A → Working
  working_in me = working_of me.0.view.role

  -- a step of a sender on this word of the cell of this number of its own; and of a worker, on that
  -- of the number in its hand
  abbrev pub SendsAt : (Shape → ℕ → ℕ → ℕ) → (Asking → ℕ) → ℕ → Mine A → Type 0
  SendsAt place number word me =
      IsSender me.0.view.role × (word ≡ place me.0.view.shape (sender_of me.0.view.role) (number (asking_in me)))

  abbrev pub HoldsAt : (Shape → ℕ → ℕ → ℕ) → ℕ → Mine A → Type 0
  HoldsAt place word me =
      IsWorker me.0.view.role × ((working_in me).hand ≡ Some (hand_of me.0.view.role))
      × (word ≡ place me.0.view.shape (hand_of me.0.view.role).0 (hand_of me.0.view.role).1)

  -- a sender's seat after a step, where it found this state word and this in the slot; and the
  -- slots that are out with it then
  abbrev pub KnowsSent : SenderStep → ℕ → Home → List (ℕ × Option A) → Mine A → Mine A → Type 0
  KnowsSent step word home slots old new =
      (new.0.view ≡ asker old.0.view.shape old.0.view.key (sender_of old.0.view.role)
      (asking_after (asking_in old) step word home))
      × (new.1 ≡ slots)

  -- an answer came out: it is that of the number that the sender receives next, which it asked
  abbrev pub KnowsAnswer : (A → Shown) → Meaning → A → Mine A → Mine A → Type 0
  KnowsAnswer shown meaning answer old new =
      (next_received (asking_in old) < next_asked (asking_in old))
      × (shown answer
      ≡ meaning old.0.view.key (slice_index_or (asking_in old).asked (next_received (asking_in old)) (Address 0)))
      × KnowsSent BringsOut 0 (Full (shown answer))
      ((cell_of old.0.view.shape (sender_of old.0.view.role) (next_received (asking_in old)), Some answer) ∷ old.1)
      old new

  -- a worker's seat after a step, where it found this word; and the slots that are out with it then
  abbrev pub KnowsWorked : WorkerStep → ℕ → List (ℕ × Option A) → Mine A → Mine A → Type 0
  KnowsWorked step word slots old new =
      (new.0.view ≡ worker old.0.view.shape old.0.view.key (worker_of old.0.view.role)
      (working_after old.0.view.shape (working_in old) step word))
      × (new.1 ≡ slots)

  -- it looked at a cell
  abbrev pub KnowsLooked : ℕ → ℕ → Mine A → Mine A → Type 0
  KnowsLooked cell word old new = KnowsWorked (LooksAt cell) word old.1 old new × IsOfCell old.0.view.shape cell word

  -- it tried to take a number, and where it found it waiting, it has that number's slot
  abbrev pub KnowsTried : Ticket → ℕ → Mine A → Mine A → Type 0
  KnowsTried ticket word old new =
      KnowsWorked (Takes ticket.0 ticket.1) word
      (if nat_eq word (asked_word ticket.1) then (cell_of old.0.view.shape ticket.0 ticket.1, None) ∷ old.1 else old.1)
      old new

  -- it read the first word of the query of the number in its hand
  abbrev pub KnowsFirst : Ticket → ℕ → Mine A → Mine A → Type 0
  KnowsFirst ticket word old new = KnowsWorked (ReadsFirst ticket.0 ticket.1) word old.1 old new

  -- it read the second too, and they are the words of a query
  abbrev pub KnowsSecond : Ticket → ℕ → ℕ → Mine A → Mine A → Type 0
  KnowsSecond ticket first word old new =
      KnowsWorked (ReadsSecond ticket.0 ticket.1 first) word old.1 old new × AreWords first word

  -- it answered the number in its hand; what it knows then is the same for all queries and answers
  abbrev pub KnowsAnswered : Ticket → List (ℕ × Option A) → Mine A → Mine A → Type 0
  KnowsAnswered ticket slots old new = KnowsWorked (Answers ticket.0 ticket.1 (Address 0) gnil) 0 slots old new

  -- it gave the number in its hand back
  abbrev pub KnowsGivenBack : Ticket → List (ℕ × Option A) → Mine A → Mine A → Type 0
  KnowsGivenBack ticket slots old new = KnowsWorked (GivesBack ticket.0 ticket.1) 0 slots old new

-- ---- how a seat is cut off

-- what is left of the opening seat
abbrev pub left_after : Stamped → Stamped
left_after known = stamped (opener known.view.shape known.view.key (suc (cut_of known.view.role))) 0

-- what the new one knows
abbrev pub cut_from : Stamped → Stamped
cut_from known = stamped (next_seat known.view.shape known.view.key (cut_of known.view.role)) 0
