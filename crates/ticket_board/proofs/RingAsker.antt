-- What a sender's end knows occurs, and is served.
use Rattle.std.proofs.Common.{◌≡◌, ℕ, ◌+◌, ◌*◌, ◌<◌, Bool, true, eqb, subst, arith}
use Rattle.atomic_table.specs.Table as table
use Rattle.atomic_table.specs.Seated.{TableId}
use Rattle.ticket_core.specs.declared.shape.Shape.{Shape}
use Rattle.ticket_core.specs.State.{Meaning}
use Rattle.ticket_board.specs.Ring.Views.{Role, View, Stamped, asker, sender_seat, seat_of, asking_of, next_asked, next_received}
use Rattle.ticket_board.specs.Ring.Homes.{Out}
use Rattle.ticket_board.specs.Ring.Shows.{Board, Sits}
use Rattle.ticket_board.specs.Ring.Steps.{LooksNext, asking_after}
use Rattle.ticket_board.specs.Ring.Moves.{Occurs, board_after}
use Rattle.ticket_board.specs.Ring.Laws.{IsServed, OfAllMoves, AreServed}
use Rattle.ticket_board.specs.Ring.Rule.{IsSender, sender_of}
use Rattle.ticket_board.specs.Ring.Ends.{AskerState, IsAsker, AskerOccurs, asker_shown}
use Rattle.ticket_board.proofs.RingMoves.{moves-show}
use Rattle.ticket_board.proofs.RingSenderSteps.{right-answer}
use Rattle.ticket_board.proofs.RingRule.{is-sender}
use Rattle.ticket_board.proofs.RingViews.{view-is}

pub asker-occurs : {S : Type 0} (meaning : Meaning) (sender asked received : ℕ) (found : Bool) (shape : Shape) (table_id : TableId) (me : table.Me S Stamped)
    → IsAsker meaning sender asked received found shape me → AskerOccurs meaning (asker_shown sender table_id me)
asker-occurs meaning sender asked received found shape table_id me is = grind (arith, is-sender)

-- by the law of the board
pub occurs-served : (meaning : Meaning) (it : AskerState) → it.sender < it.shape.senders → AskerOccurs meaning it → OfAllMoves meaning (AreServed meaning)
    → IsServed meaning it.shape it.key it.asking.asked it.asking.received
occurs-served meaning it below (words, moves, may, sits) law = grind (arith, view-is)

-- the number that was found answered was asked
pub found-outstanding : (meaning : Meaning) (view : View) → IsSender view.role → Occurs meaning view
    → (asking_of view.role).found ≡ true → next_received (asking_of view.role) < next_asked (asking_of view.role)
found-outstanding meaning view sender (words, moves, may, sits) found =
    let board : Board = board_after view.shape view.key words moves in
    let core = moves-show meaning view.shape view.key words moves may in
    let s : ℕ = sender_of view.role in
    let here : Sits board (sender_seat s) (asker view.shape view.key s (asking_of view.role)) =
    subst (λ (role : Role). Sits board (seat_of view.shape role) (record { shape = view.shape; key = view.key; role = role })) (is-sender view.role sender) sits in
    (right-answer meaning view.shape view.key board core.0 (sender_seat s) s (asking_of view.role) core.1 here found).0

-- so it was where a look found it now
pub looked-outstanding : (meaning : Meaning) (old new : View) (word received : ℕ)
    → new ≡ asker old.shape old.key (sender_of old.role) (asking_after (asking_of old.role) LooksNext word Out) → Occurs meaning new
    → received ≡ next_received (asking_of old.role) → eqb word (8 * received + 3) ≡ true
    → next_received (asking_of old.role) < next_asked (asking_of old.role)
looked-outstanding meaning old new word received told occurs next found =
    found-outstanding meaning (asker old.shape old.key (sender_of old.role) (asking_after (asking_of old.role) LooksNext word Out)) tt
    (subst (Occurs meaning) told occurs) (subst (λ (n : ℕ). eqb word (8 * n + 3) ≡ true) next found)
