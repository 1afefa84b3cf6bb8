-- What the ring shows its callers, and what a sender's end of it shows.
use Rattle.std.specs.Prelude.{◌≡◌, ℕ, ◌+◌, ◌-◌, ◌<◌, ◌≤◌, Bool, false, List, [], ◌∷◌, ◌++◌, slice_index_or, Option}
use Rattle.std.specs.Prelude.{Some, None, nat_le, if◌then◌else◌}
use Rattle.atomic_table.specs.Table as table
use Rattle.atomic_table.specs.Seated.{TableId}
use Rattle.ticket_core.specs.declared.query.Query.{Query}
use Rattle.ticket_core.specs.declared.query.QueryKind.TheVariants.{Address}
use Rattle.ticket_core.specs.declared.shape.Shape.{Shape}
use Rattle.ticket_core.specs.Shape.{Fits}
use Rattle.ticket_core.specs.State.{Shown, Meaning}
use Rattle.ticket_board.specs.declared.fault.AskFault.{AskFault}
use Rattle.ticket_board.specs.declared.fault.AskFault.TheVariants.{Full, Exhausted}
use Rattle.ticket_board.specs.Ring.Layout.{words_in}
use Rattle.ticket_board.specs.Ring.Views.{Nothing, Asking, Stamped, asker, asking_of, next_asked, next_received}
use Rattle.ticket_board.specs.Ring.Moves.{Occurs}
use Rattle.ticket_board.specs.Ring.Rule.{IsSender, sender_of}

-- the ring: its shape and key, and which table it is
pub record RingState : Type 0 where
  pub shape : Shape
  pub key : List ℕ
  pub table : TableId

-- the table has a word of each kind for each cell, and the ring's own shape is the table's
abbrev pub IsRing : Shape → Shape → TableId → Type 0
IsRing own shape table = Fits shape × (table.words ≡ words_in shape) × (own ≡ shape)

-- a sender's end: whose it is, of which table, and what its seat knows
pub record AskerState : Type 0 where
  pub shape : Shape
  pub key : List ℕ
  pub table : TableId
  pub sender : ℕ
  pub asking : Asking

-- it was opened with this ring
pub record IsAskerOf (ring : RingState) (asker : AskerState) : Type 0 where
  pub shape_is : asker.shape ≡ ring.shape
  pub key_is : asker.key ≡ ring.key
  pub table_is : asker.table ≡ ring.table

module _ {S : Type 0} where
  abbrev pub asker_shown : ℕ → TableId → table.Me S Stamped → AskerState
  asker_shown sender table me = record {
    shape = me.0.view.shape;
    key = me.0.view.key;
    table = table;
    sender = sender;
    asking = asking_of me.0.view.role;
  }

  -- its fields are what its seat knows
  pub record IsAsker (meaning : Meaning) (sender asked received : ℕ) (found : Bool) (shape : Shape)
      (me : table.Me S Stamped) : Type 0 where
    pub asks : IsSender me.0.view.role
    pub sender_is : sender_of me.0.view.role ≡ sender
    pub shape_is : me.0.view.shape ≡ shape
    pub carries : me.1 ≡ []
    pub fits : Fits shape
    pub below : sender < shape.senders
    pub asked_is : asked ≡ next_asked (asking_of me.0.view.role)
    pub received_is : received ≡ next_received (asking_of me.0.view.role)
    pub found_is : found ≡ (asking_of me.0.view.role).found
    pub nothing_out : (asking_of me.0.view.role).collecting ≡ None
    pub ordered : received ≤ asked
    pub window : asked ≤ received + shape.window
    pub most : asked ≤ shape.most
    pub occurs : Occurs meaning me.0.view

-- some moves make a ring on which it knows this
abbrev pub AskerOccurs : Meaning → AskerState → Type 0
AskerOccurs meaning it = Occurs meaning (asker it.shape it.key it.sender it.asking)

-- the first condition that refuses a query: the sender asked all it may, then its window is full
abbrev pub asking_refusal : Shape → Asking → Option AskFault
asking_refusal shape asking =
    if nat_le shape.most (next_asked asking) then Some Exhausted
    else if nat_le shape.window (next_asked asking - next_received asking) then Some Full
    else None

-- what it asked at a number
abbrev pub asked_at : Asking → ℕ → Query
asked_at asking n = slice_index_or asking.asked n (Address 0)

-- it was seen whether the next number is answered
abbrev pub looks : Bool → Asking → Asking
looks found asking = record asking {
  found = found;
  missed = if found then asking.missed else asking.missed ++ next_received asking ∷ [];
}

-- the next answer is received
abbrev pub receives_one : Shown → Asking → Asking
receives_one answer asking = record asking {
  received = asking.received ++ answer ∷ [];
  found = false;
  collecting = None;
}

-- one query more is asked
abbrev pub asks_one : Query → Asking → Asking
asks_one query asking = record asking { asked = asking.asked ++ query ∷ []; ahead = Nothing }
