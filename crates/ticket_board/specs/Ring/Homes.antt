-- What lies in a cell's slot.
use Rattle.std.specs.Prelude.{ℕ, List, slice_index_or}
use base.Stored.{gnil}
use Rattle.ticket_core.specs.declared.shape.Shape.{Shape}
use Rattle.ticket_core.specs.State.{Shown}
use Rattle.ticket_board.specs.Ring.Layout.{cell_of}

-- the slot is out with a seat, or empty, or has an answer
pub data Home : Type 0 where
  Out : Home
  Empty : Home
  Full : (answer : Shown) → Home

abbrev pub home_at : Shape → List Home → ℕ → ℕ → Home
home_at shape homes s n = slice_index_or homes (cell_of shape s n) Out

-- the answer in it
abbrev pub answer_at_home : Home → Shown
answer_at_home (Full answer) = answer
answer_at_home _ = gnil
