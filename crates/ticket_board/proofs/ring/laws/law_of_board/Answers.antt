use Rattle.std.proofs.Common.{◌∙◌, ◌++◌}
use Rattle.ticket_board.specs.Ring.Views.{asking_at}
use Rattle.ticket_board.specs.Ring.Moves.{board_after, events_of}
use Rattle.ticket_board.specs.Ring.Laws.{AreServed, OfAllMoves}
use Rattle.ticket_board.proofs.RingMoves.{moves-show}
use Rattle.ticket_board.proofs.RingRuns.{answered-done, done-once, grows-all, served, at-end}
use Rattle.ticket_board.proofs.ring.laws.law_of_board.Goals as goal

pub returns : goal.returns
returns c =
    let law = c.law_of_runs.ensures in
    let all-served : (meaning : _) → OfAllMoves meaning (AreServed meaning) =
    λ meaning shape key words moves may s below.
    let run = moves-show meaning shape key words moves may in
    let events = events_of shape key words moves in
    served meaning shape key (board_after shape key words moves) run.0 run.1 s below (law.right meaning shape key events run.0 run.2 s)
    (law.limits meaning shape key events run.0 run.2 s) in
    record {
      shows = λ meaning shape key words moves may. moves-show meaning shape key words moves may;
      served = all-served;
      once = λ meaning shape key words moves may core shows s n. answered-done meaning shape key words moves may s n ∙ shows.done s n;
      done = λ meaning shape key words moves may w. done-once meaning shape key words moves may w;
      ended = λ meaning shape key words moves may more may' s below all same.
          at-end meaning shape key (asking_at (board_after shape key words moves).views s) (asking_at (board_after shape key words (more ++ moves)).views s)
          (grows-all meaning shape key words more moves may' s below)
          (all-served meaning shape key words moves may s below) (all-served meaning shape key words (more ++ moves) may' s below) all same;
    }
