-- What a client learns of its next number, and what a worker did.
use Rattle.std.specs.Prelude.{◌≡◌, ◌<◌, ◌+◌, ℕ, List, [], ◌∷◌, ◌++◌, length, slice_index_or, None, Result, IfOk, OnErr}
use Rattle.std.specs.Prelude.{MatchResult, is_ok, if◌then◌else◌}
use Rattle.std.specs.List.{Contains}
use Rattle.ticket_core.specs.declared.query.Query.{Query}
use Rattle.ticket_core.specs.declared.query.QueryKind.TheVariants.{Address}
use Rattle.ticket_core.specs.declared.shape.Shape.{Shape}
use Rattle.ticket_core.specs.State.{Ticket}
use Rattle.ticket_board.specs.declared.outcome.Next.{Next}
use Rattle.ticket_board.specs.declared.outcome.Next.TheVariants.{Pending, Answer, Ended}
use Rattle.ticket_board.specs.declared.outcome.Turn.{Turn}
use Rattle.ticket_board.specs.declared.outcome.Turn.TheVariants.{Answered, Idle}
use Rattle.ticket_board.specs.Ring.Layout.{cells_in}
use Rattle.ticket_board.specs.Seats.{ClientState, WorkerState}

-- what it asked at a number
abbrev pub query_of : ClientState → ℕ → Query
query_of client n = slice_index_or client.asked n (Address 0)

module _ {A : Type 0} where
  abbrev pub IsEnded : Next A → Type 0
  IsEnded Ended = Unit {0}
  IsEnded _ = ⊥

  abbrev pub IfPending : Next A → Type 0 → Type 0
  IfPending Pending told = told
  IfPending _ told = Unit {0}

  abbrev pub OnAnswer : Next A → (ℕ → A → Type 0) → Type 0
  OnAnswer (Answer n answer) told = told n answer
  OnAnswer _ told = Unit {0}

  abbrev pub IfEnded : Next A → Type 0 → Type 0
  IfEnded Ended told = told
  IfEnded _ told = Unit {0}

-- ---- what a worker's turn leaves

-- in one pass each cell of the board gave it nothing: each of them once
abbrev pub MissedEvery : Shape → List ℕ → List ℕ → Type 0
MissedEvery shape old new =
    (gained : List ℕ) × (new ≡ old ++ gained) × (length gained ≡ cells_in shape)
    × ((cell : ℕ) → cell < cells_in shape → Contains gained cell)

-- what it answered is done, a number of one of the senders; or no cell gave it a query
abbrev pub HasServed : Shape → Turn → WorkerState → WorkerState → Type 0
HasServed shape (Answered s n) old new = (s < shape.senders) × (new.done ≡ old.done ++ (s, n) ∷ [])
HasServed shape Idle old new = MissedEvery shape old.missed new.missed × (new.done ≡ old.done)

-- it gave one number back, of one of so many senders: that waits again
abbrev pub ReturnsOne : ℕ → List Ticket → List Ticket → Type 0
ReturnsOne senders old new = (s n : ℕ) × (s < senders) × (new ≡ old ++ (s, n) ∷ [])

-- it is the same worker, whose hand is empty before and after; it served, and gave nothing back, or
-- its solver was out of memory: then it answered nothing, and gave one number back
pub record HasTurned {E : Type 0} (shape : Shape) (result : Result Turn E) (old new : WorkerState) : Type 0 where
  pub seat : new.seat ≡ old.seat
  pub empty_before : old.hand ≡ None
  pub empty_after : new.hand ≡ None
  pub served : IfOk result (λ turn. HasServed shape turn old new)
  pub none : OnErr result (new.done ≡ old.done)
  pub returned : MatchResult result (λ _. new.returned ≡ old.returned)
      (λ _. ReturnsOne shape.senders old.returned new.returned)

-- how often its solver was out of memory: once more where the turn reports that, and only there
abbrev pub refused_after : {E : Type 0} → Result Turn E → ℕ → ℕ
refused_after result refused = if is_ok result then refused else refused + 1
