-- The ends of a ring that was just opened.
use Rattle.std.specs.Prelude.{◌≡◌, ℕ, zero, suc, List, [], ◌∷◌}
use Rattle.atomic_table.specs.Table as table
use Rattle.atomic_table.specs.Seated.{TableId}
use Rattle.ticket_core.specs.declared.shape.Shape.{Shape}
use Rattle.ticket_board.specs.Ring.Views.{Stamped, stamped, new_asking, new_working, opener}
use Rattle.ticket_core.specs.State.{Meaning}
use Rattle.ticket_board.specs.Ring.Moves.{Occurs}
use Rattle.ticket_board.specs.Ring.Ends.{RingState, AskerState}
use Rattle.ticket_board.specs.Ring.Takers.{TakerState}

-- the ring has this shape and this key
abbrev pub IsRingOf : Shape → List ℕ → RingState → Type 0
IsRingOf shape key ring = (ring.shape ≡ shape) × (ring.key ≡ key)

-- ends that asked and took nothing

abbrev pub new_asker : RingState → ℕ → AskerState
new_asker ring s = record { shape = ring.shape; key = ring.key; table = ring.table; sender = s; asking = new_asking }

abbrev pub new_taker : RingState → ℕ → TakerState
new_taker ring w = record { shape = ring.shape; key = ring.key; table = ring.table; worker = w; working = new_working }

-- so many of them, from this number on
abbrev pub askers_from : RingState → ℕ → ℕ → List AskerState
askers_from ring s zero = []
askers_from ring s (suc count) = new_asker ring s ∷ askers_from ring (suc s) count

abbrev pub takers_from : RingState → ℕ → ℕ → List TakerState
takers_from ring w zero = []
takers_from ring w (suc count) = new_taker ring w ∷ takers_from ring (suc w) count

-- one for each sender, and one for each worker
abbrev pub new_askers : RingState → List AskerState
new_askers ring = askers_from ring 0 ring.shape.senders

abbrev pub new_takers : RingState → List TakerState
new_takers ring = takers_from ring 0 ring.shape.workers

-- the seat from which others are cut off: it is the ring's, so many were cut off from it, and no
-- slot is out with it; and some moves make a ring on which it knows that
pub record IsDesk {S : Type 0} (meaning : Meaning) (ring : RingState) (cut : ℕ) (table_id : TableId)
    (me : table.Me S Stamped) : Type 0 where
  pub table_is : table_id ≡ ring.table
  pub knows : me ≡ (stamped (opener ring.shape ring.key cut) 0, [])
  pub occurs : Occurs meaning (opener ring.shape ring.key cut)
