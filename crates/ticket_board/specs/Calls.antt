-- The calls of a client, with what came of each; and what is final.
use Rattle.std.specs.Prelude.{◌≡◌, ◌<◌, Bool, true, false, List, [], ◌∷◌, length, Option, Some, None}
use Rattle.std.specs.List.{AllByRecursion}
use Rattle.ticket_core.specs.declared.query.Query.{Query}
use Rattle.ticket_core.specs.State.{Shown}
use Rattle.ticket_board.specs.declared.fault.AskFault.{AskFault}
use Rattle.ticket_board.specs.declared.fault.AskFault.TheVariants.{Closed}
use Rattle.ticket_board.specs.declared.outcome.Next.{Next}
use Rattle.ticket_board.specs.declared.outcome.Next.TheVariants.{Pending, Answer, Ended}
use Rattle.ticket_board.specs.Seats.{ClientState, HasEnded, ask_refusal, asks, finds, receives, closes}

pub data Call : Type 0 where
  -- `ask`: the query is asked, or refused for this reason
  Ask : (query : Query) (refusal : Option AskFault) → Call
  -- `ready`: whether the next number was found answered
  Ready : (found : Bool) → Call
  -- `next`: an answer, or none yet, or the end
  NextAnswer : (answer : Shown) → Call
  NextPending : Call
  NextEnded : Call
  -- `close`
  Close : Call

abbrev pub next_call : {A : Type 0} → (A → Shown) → Next A → Call
next_call shown (Answer n answer) = NextAnswer (shown answer)
next_call shown Pending = NextPending
next_call shown Ended = NextEnded

-- when this comes of a call, and what the client is then
abbrev pub IsCall : Call → ClientState → ClientState → Type 0
IsCall (Ask query None) old new = (ask_refusal old ≡ None) × (new ≡ asks query old)
IsCall (Ask query (Some fault)) old new = (ask_refusal old ≡ Some fault) × (new ≡ old)
IsCall (Ready found) old new = (found ≡ true → length old.received < length old.asked) × (new ≡ finds found old)
IsCall (NextAnswer answer) old new = (length old.received < length old.asked) × (new ≡ receives answer old)
IsCall NextPending old new = (¬ HasEnded old) × (new ≡ finds false old)
IsCall NextEnded old new = HasEnded old × (new ≡ old)
IsCall Close old new = new ≡ closes old

-- calls, one after the other
abbrev pub AreCalls : List Call → ClientState → ClientState → Type 0
AreCalls [] old new = new ≡ old
AreCalls (call ∷ calls) old new = (mid : ClientState) × IsCall call old mid × AreCalls calls mid new

-- ---- the end

-- what comes of a call at the end: a query is refused, since the client is closed; no number is
-- found answered; `next` returns the end
abbrev pub IsLate : Call → Type 0
IsLate (Ask query refusal) = refusal ≡ Some Closed
IsLate (Ready found) = found ≡ false
IsLate (NextAnswer answer) = ⊥
IsLate NextPending = ⊥
IsLate NextEnded = Unit {0}
IsLate Close = Unit {0}

-- it has ended as well, with the same lists
pub record StaysEnded (old new : ClientState) : Type 0 where
  pub ended : HasEnded new
  pub asked : new.asked ≡ old.asked
  pub received : new.received ≡ old.received

-- the end is final, whatever is called
abbrev pub EndIsFinal : Type 0
EndIsFinal =
    (calls : List Call) (old new : ClientState) → AreCalls calls old new → HasEnded old
    → AllByRecursion IsLate calls × StaysEnded old new
