-- What has ended stays so.
use Rattle.std.proofs.Common.{[], ◌∷◌, Some, None, arith}
use Rattle.ticket_board.specs.Seats.{ClientState, HasEnded}
use Rattle.ticket_board.specs.Calls.{Call, Ask, Ready, NextAnswer, NextPending, NextEnded, Close, IsCall, IsLate, StaysEnded, EndIsFinal}

one_late : (call : Call) (old new : ClientState) → IsCall call old new → HasEnded old → IsLate call × StaysEnded old new
one_late (Ask query None) old new is ended = grind arith
one_late (Ask query (Some fault)) old new is ended = grind arith
one_late (Ready found) old new is ended = grind arith
one_late (NextAnswer answer) old new is ended = grind arith
one_late NextPending old new is ended = grind arith
one_late NextEnded old new is ended = grind arith
one_late Close old new is ended = grind arith

pub end_is_final : EndIsFinal
end_is_final [] old new is ended = grind arith
end_is_final (call ∷ calls) old new (mid, first, later) ended =
    grind (arith, one_late, end_is_final calls mid new later)
