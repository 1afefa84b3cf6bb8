-- What a seat at the ring knows.
use Rattle.std.specs.Prelude.{ℕ, suc, ◌+◌, ◌<◌, Bool, false, List, [], length, slice_index_or, Option, None}
use Rattle.ticket_core.specs.declared.query.Query.{Query}
use Rattle.ticket_core.specs.declared.query.QueryKind.TheVariants.{Address}
use Rattle.ticket_core.specs.declared.shape.Shape.{Shape}
use Rattle.ticket_core.specs.State.{Shown, Ticket}

-- ---- a query, as far as its words are known

pub data Known : Type 0 where
  -- neither of them
  Nothing : Known
  -- the first
  FirstWord : (word : ℕ) → Known
  -- both
  Whole : (query : Query) → Known

-- the first word, where that alone is known, and the query, where both words are
abbrev pub first_known : Known → ℕ
first_known (FirstWord word) = word
first_known _ = 0

abbrev pub query_known : Known → Query
query_known (Whole query) = query
query_known _ = Address 0

-- ---- a sender

pub record Asking : Type 0 where
  -- what it asked and what it received, both by number
  pub asked : List Query
  pub received : List Shown
  -- the query that is in the cell of the next number, which isn't asked yet
  pub ahead : Known
  -- the next number to be received was found answered
  pub found : Bool
  -- the answer of the next number, on its way out of the slot
  pub collecting : Option Shown
  -- the numbers that weren't answered when it looked
  pub missed : List ℕ

-- the number that it asks next
abbrev pub next_asked : Asking → ℕ
next_asked asking = length asking.asked

-- the number that it receives next
abbrev pub next_received : Asking → ℕ
next_received asking = length asking.received

-- one number more may be asked
abbrev pub HasRoom : Shape → Asking → Type 0
HasRoom shape asking = (next_asked asking < next_received asking + shape.window) × (next_asked asking < shape.most)

abbrev pub new_asking : Asking
new_asking = record { asked = []; received = []; ahead = Nothing; found = false; collecting = None; missed = [] }

-- ---- a worker

pub record Working : Type 0 where
  -- what it took and neither answered nor gave back, and what it read of its query
  pub hand : Option Ticket
  pub read : Known
  -- what it saw asked when it looked
  pub seen : Option Ticket
  -- the cells that gave it nothing when it looked or tried
  pub missed : List ℕ
  -- what it answered
  pub done : List Ticket
  -- what it gave back, which waits again then
  pub returned : List Ticket

abbrev pub new_working : Working
new_working = record { hand = None; read = Nothing; seen = None; missed = []; done = []; returned = [] }

-- ---- seats

pub data Role : Type 0 where
  -- the seat from which those of senders and workers are cut off, so many so far
  Opens : (cut : ℕ) → Role
  Asks : (s : ℕ) (asking : Asking) → Role
  Works : (w : ℕ) (working : Working) → Role

pub record View : Type 0 where
  pub shape : Shape
  pub key : List ℕ
  pub role : Role

abbrev pub opener : Shape → List ℕ → ℕ → View
opener shape key cut = record { shape = shape; key = key; role = Opens cut }

abbrev pub asker : Shape → List ℕ → ℕ → Asking → View
asker shape key s asking = record { shape = shape; key = key; role = Asks s asking }

abbrev pub worker : Shape → List ℕ → ℕ → Working → View
worker shape key w working = record { shape = shape; key = key; role = Works w working }

-- what a seat knows, and how many moves all seats had made with its own last step; 0 where it made
-- none
pub record Stamped : Type 0 where
  pub view : View
  pub last : ℕ

abbrev pub stamped : View → ℕ → Stamped
stamped view last = record { view = view; last = last }

-- ---- seats in a row: the first opens, then come the senders, then the workers

abbrev pub sender_seat : ℕ → ℕ
sender_seat s = suc s

abbrev pub worker_seat : Shape → ℕ → ℕ
worker_seat shape w = suc (shape.senders + w)

-- the seat of this role
abbrev pub seat_of : Shape → Role → ℕ
seat_of shape (Opens cut) = 0
seat_of shape (Asks s asking) = sender_seat s
seat_of shape (Works w working) = worker_seat shape w

-- a seat that isn't there
abbrev pub nobody : View
nobody = opener (record { senders = 0; workers = 0; window = 0; most = 0 }) [] 0

abbrev pub view_at : List View → ℕ → View
view_at views seat = slice_index_or views seat nobody

-- what a seat knows as a sender, and as a worker; one that is neither knows what a new one knows
abbrev pub asking_of : Role → Asking
asking_of (Asks s asking) = asking
asking_of _ = new_asking

abbrev pub working_of : Role → Working
working_of (Works w working) = working
working_of _ = new_working

abbrev pub asking_at : List View → ℕ → Asking
asking_at views s = asking_of (view_at views (sender_seat s)).role

abbrev pub working_at : Shape → List View → ℕ → Working
working_at shape views w = working_of (view_at views (worker_seat shape w)).role
