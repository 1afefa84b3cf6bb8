-- What a worker's end knows occurs, and what it has done is what its own moves answered.
use Rattle.std.proofs.Common.{◌≡◌, ℕ, List, Option, ap, subst}
use Rattle.atomic_table.specs.Table as table
use Rattle.atomic_table.specs.Seated.{TableId}
use Rattle.ticket_core.specs.declared.shape.Shape.{Shape}
use Rattle.ticket_core.specs.State.{Meaning, Ticket}
use Rattle.ticket_board.specs.Ring.Views.{View, Role, Working, Stamped, worker, worker_seat, working_of, working_at}
use Rattle.ticket_board.specs.Ring.Moves.{Occurs, board_after}
use Rattle.ticket_board.specs.Ring.Laws.{IsDone, AreDone, OfAllMoves, WorkOccurs}
use Rattle.ticket_board.specs.Ring.Rule.{worker_of}
use Rattle.ticket_board.specs.Ring.Takers.{IsTaker, TakerOccurs, taker_shown}
use Rattle.ticket_board.proofs.RingViews.{view-is}
use Rattle.ticket_board.proofs.RingWorkerRule.{is-worker}

-- by the law of the board
work-occurs : (meaning : Meaning) (shape : Shape) (key : List ℕ) (w : ℕ) (working : Working) → Occurs meaning (worker shape key w working)
    → OfAllMoves meaning AreDone → WorkOccurs meaning shape key w working
work-occurs meaning shape key w working (words, moves, may, sits) law =
    let known : working_at shape (board_after shape key words moves).views w ≡ working =
    ap (λ (view : View). working_of view.role) (view-is (board_after shape key words moves).views (worker_seat shape w) (worker shape key w working) sits) in
    (words, moves, may, sits, subst (λ (x : Working). IsDone w moves x.done) known (law shape key words moves may w))

pub taker-occurs : {A : Type 0} (meaning : Meaning) (hand : Option Ticket) (shape : Shape) (table_id : TableId) (me : table.Me (Option A) Stamped)
    → IsTaker meaning hand shape me → OfAllMoves meaning AreDone → TakerOccurs meaning (taker_shown table_id me)
taker-occurs meaning hand shape table_id me is law =
    work-occurs meaning me.0.view.shape me.0.view.key (worker_of me.0.view.role) (working_of me.0.view.role)
    (subst (λ (role : Role). Occurs meaning (record { shape = me.0.view.shape; key = me.0.view.key; role = role })) (is-worker me.0.view.role is.works) is.occurs) law
