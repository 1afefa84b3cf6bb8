-- What a pool answers, and how its queries are dealt to its senders.
use Rattle.std.specs.Prelude.{◌≡◌, ℕ, zero, suc, ◌-◌, ◌*◌, ◌≤◌, false, List, [], ◌∷◌, length, map, drop}
use Rattle.std.specs.List.{AllByRecursion}
use Rattle.ticket_core.specs.declared.query.Query.{Query}
use Rattle.ticket_core.specs.declared.shape.Shape.{Shape}
use Rattle.ticket_core.specs.Shape.{Fits}
use Rattle.ticket_core.specs.State.{Shown, Meaning}
use Rattle.ticket_board.specs.declared.pool.fault.PoolFault.{PoolFault}
use Rattle.ticket_board.specs.declared.pool.fault.PoolFault.TheVariants.{BadShape, Memory}
use Rattle.ticket_board.specs.declared.pool.sender_task.Came.{Came}
use Rattle.ticket_board.specs.declared.pool.sender_task.Came.TheVariants.{End}
use Rattle.ticket_board.specs.declared.pool.task.Task.{Task}
use Rattle.ticket_board.specs.declared.pool.task.Lot.{Lot}
use Rattle.ticket_board.specs.Ring.Ends.{RingState}
use Rattle.ticket_board.specs.Seats.{ClientState, WorkerState, IsClientOf, IsWorkerOf}

-- ---- what a pool answers

-- the answers to these queries, in their order, and as many as they are
abbrev pub AreAnswers : {A : Type 0} → (A → Shown) → Meaning → List ℕ → List Query → List A → Type 0
AreAnswers shown meaning key queries answers = map shown answers ≡ map (meaning key) queries

-- the shape is within its limits, and no sender has more of so many queries than it may ask
abbrev pub PoolFits : Shape → ℕ → Type 0
PoolFits shape queries = Fits shape × (queries ≤ shape.senders * shape.most)

-- a shape that doesn't fit is reported as that, and out of memory only of one that does
abbrev pub RefusesPool : PoolFault → Shape → ℕ → Type 0
RefusesPool BadShape shape queries = ¬ PoolFits shape queries
RefusesPool Memory shape queries = PoolFits shape queries

-- ---- how queries are dealt

-- of these queries every step-th, after the first k
abbrev pub every : ℕ → ℕ → List Query → List Query
every step k [] = []
every step zero (query ∷ queries) = query ∷ every step (step - 1) queries
every step (suc k) (query ∷ queries) = every step k queries

-- what holds of each and its index, where the first has the index k
abbrev pub EachFrom : {V : Type 0} → (ℕ → V → Type 0) → ℕ → List V → Type 0
EachFrom F k [] = Unit {0}
EachFrom F k (x ∷ xs) = F k x × EachFrom F (suc k) xs

-- the answers of one sender: those to its queries, of all that are dealt to so many senders
abbrev pub IsLane : {A : Type 0} → (A → Shown) → Meaning → List ℕ → ℕ → List Query → ℕ → List A → Type 0
IsLane shown meaning key senders queries sender lane = AreAnswers shown meaning key (every senders sender queries) lane

-- the answers of each sender, in order
abbrev pub AreLanes : {A : Type 0} → (A → Shown) → Meaning → List ℕ → ℕ → List Query → List (List A) → Type 0
AreLanes shown meaning key senders queries lanes = EachFrom (IsLane shown meaning key senders queries) 0 lanes

-- the same of a task; and the answers to its queries from one on
module _ {A : Type 0} (shown : A → Shown) (meaning : Meaning) (task : Task) where
  abbrev pub IsLaneOf : ℕ → List A → Type 0
  IsLaneOf sender lane = IsLane shown meaning task.key.now task.shape.senders task.queries.asked.now sender lane

  abbrev pub AreLanesFrom : ℕ → List (List A) → Type 0
  AreLanesFrom i lanes = AreLanes shown meaning task.key.now task.shape.senders (drop i task.queries.asked.now) lanes

-- ---- threads

-- it has asked and received nothing, and asks still
abbrev pub IsFresh : ClientState → Type 0
IsFresh client = (client.asked ≡ []) × (client.received ≡ []) × (client.closed ≡ false)

-- it is this sender's of the board, and fresh
abbrev pub IsNewSender : RingState → ℕ → ClientState → Type 0
IsNewSender board sender client = IsClientOf board client × (client.seat.sender ≡ sender) × IsFresh client

-- a new sender of the board may ask its part of a task, which is under the board's key
abbrev pub MaySend : RingState → Task → ℕ → ClientState → Type 0
MaySend board task sender client = (task.key.now ≡ board.key) × Fits task.shape × IsNewSender board sender client

-- a worker of the board may serve it, by a solver whose key is the board's
abbrev pub MayServe : RingState → List ℕ → WorkerState → Type 0
MayServe board made_by worker = (made_by ≡ board.key) × IsWorkerOf board worker

-- a sender learns that all was asked and received
abbrev pub IsEnd : Came → Type 0
IsEnd End = Unit {0}
IsEnd _ = ⊥

-- the thread promises the answers of this sender
abbrev pub IsPromised : {S : Type 0} → Task → ℕ → Lot S → Type 0
IsPromised task sender lot = (lot.task ≡ task) × (lot.sender ≡ sender)

-- what a pool runs on: a new board with all its ends, and a task and a maker under the board's key
pub record IsPool (board : RingState) (task : Task) (made_by : List ℕ) (clients : List ClientState)
    (workers : List WorkerState) : Type 0 where
  pub count : length clients ≡ task.shape.senders
  pub senders : EachFrom (MaySend board task) 0 clients
  pub maker : made_by ≡ board.key
  pub hired : AllByRecursion (IsWorkerOf board) workers
