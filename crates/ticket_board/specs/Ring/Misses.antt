-- A look that is noted as a miss, whatever it found.
use Rattle.std.specs.Prelude.{ℕ, false, List, [], ◌∷◌, ◌++◌, slice_set}
use Rattle.ticket_core.specs.declared.shape.Shape.{Shape}
use Rattle.ticket_core.specs.State.{Meaning}
use Rattle.ticket_board.specs.Ring.Views.{Asking, asker, sender_seat, next_received}
use Rattle.ticket_board.specs.Ring.Shows.{Board, Sits}
use Rattle.ticket_board.specs.Ring.Steps.{MaySend, LooksNext}
use Rattle.ticket_board.specs.Ring.Moves.{IsMade}

-- the next number is noted as not answered
abbrev pub misses : Asking → Asking
misses asking = record asking { found = false; missed = asking.missed ++ next_received asking ∷ [] }

-- the rule allows it: whatever moves made a ring, what a sender that may look leaves by noting a
-- miss is again a ring that some moves made, with some count for the sender's last step
abbrev pub MayMiss : Meaning → Type 0
MayMiss meaning =
    (shape : Shape) (key : List ℕ) (board : Board) (stamps : List ℕ) (s : ℕ) (asking : Asking)
    → IsMade meaning shape key board stamps → Sits board (sender_seat s) (asker shape key s asking)
    → MaySend shape asking LooksNext
    → (last : ℕ)
    × IsMade meaning shape key (record board {
      views = slice_set board.views (sender_seat s) (asker shape key s (misses asking));
    }) (slice_set stamps (sender_seat s) last)
