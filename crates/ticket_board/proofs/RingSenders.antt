-- What the words and slots say of one sender, carried over to others, and what one cell says.
use Rattle.std.proofs.Common.{◌≡◌, ◌≢◌, ℕ, ◌+◌, ◌%◌, ◌<◌, ◌≤◌, length, Option, Some, ⊎_elim, sym, ◌∙◌, subst, arith}
use Rattle.std.proofs.lemmas.Bool.{cases_eq}
use Rattle.std.proofs.lemmas.List.{get_or-set_same, get_or-set_other}
use Rattle.std.proofs.lemmas.Nat.{mod_below}
use Rattle.ticket_core.specs.declared.query.Query.{Query}
use Rattle.ticket_core.specs.declared.shape.Shape.{Shape}
use Rattle.ticket_core.specs.State.{Shown, Place, Waiting, Answered, Sender, place_of}
use Rattle.ticket_core.specs.Events.{puts}
use Rattle.ticket_board.specs.Ring.Layout.{asked_word, answered_word, collecting_word}
use Rattle.ticket_board.specs.Ring.Homes.{Home, Full, answer_at_home}
use Rattle.ticket_board.specs.Ring.Views.{Known, Asking, next_received}
use Rattle.ticket_board.specs.Ring.Shows.{CellShows, HasWords, IsAhead, SenderShows}
use Rattle.ticket_board.proofs.RingPlaces.{standing}

pub carried : (shape : Shape) {state state' first first' second second' : ℕ → ℕ} {home home' : ℕ → Home} {asking asking' : Asking} {sender sender' : Sender}
    → ((n : ℕ) → state' n ≡ state n) → ((n : ℕ) → first' n ≡ first n) → ((n : ℕ) → second' n ≡ second n) → ((n : ℕ) → home' n ≡ home n)
    → asking' ≡ asking → sender' ≡ sender
    → SenderShows shape state first second home asking sender → SenderShows shape state' first' second' home' asking' sender'
carried shape es ef e2 eh e e' old = grind arith

-- the words of a query, where they are
pub words-moved : (query query' : Query) (first first' second second' : ℕ) → query' ≡ query → first' ≡ first → second' ≡ second
    → HasWords query first second → HasWords query' first' second'
words-moved query query' first first' second second' eq ef es old = grind arith

pub ahead-moved : (known : Known) (first first' second second' : ℕ) → first' ≡ first → second' ≡ second → IsAhead known first second → IsAhead known first' second'
ahead-moved known first first' second second' ef es old = subst (λ (x : ℕ × ℕ). IsAhead known x.0 x.1) (λ i. (sym ef i, sym es i)) old

-- ---- one cell

pub cell-moved : (n next : ℕ) (collecting : Option Shown) (place place' : Place) (word word' : ℕ) (home home' : Home)
    → place' ≡ place → word' ≡ word → home' ≡ home → CellShows n next collecting place word home → CellShows n next collecting place' word' home'
cell-moved n next collecting place place' word word' home home' ep ew eh old = grind arith

-- only the cell of the next number says what is collected
pub cell-kept : (n next next' : ℕ) (collecting collecting' : Option Shown) (place : Place) (word : ℕ) (home : Home) → n ≢ next
    → CellShows n next collecting place word home → CellShows n next' collecting' place word home
cell-kept n next next' collecting collecting' place word home ne old = grind (arith, ⊎_elim)

-- a cell whose word says that a number waits stands for that number, which waits
pub asked-cell : (m next : ℕ) (collecting : Option Shown) (place : Place) (word : ℕ) (home : Home) (n : ℕ)
    → CellShows m next collecting place word home → word ≡ asked_word n → (m ≡ n) × (place ≡ Waiting)
asked-cell m next collecting place word home n shows e = grind (arith, ⊎_elim)

-- a cell whose word says that its number is answered has the answer
pub answered-cell : (n next : ℕ) (collecting : Option Shown) (place : Place) (word : ℕ) (home : Home)
    → CellShows n next collecting place word home → word ≡ answered_word n
    → (home ≡ Full (answer_at_home home)) × (place ≡ Answered (answer_at_home home))
answered-cell n next collecting place word home shows e = grind (arith, ⊎_elim)

-- a cell whose word says that its answer is on its way has that answer
pub collecting-cell : (n next : ℕ) (collecting : Option Shown) (place : Place) (word : ℕ) (home : Home) (answer : Shown)
    → CellShows n next collecting place word home → word ≡ collecting_word n → collecting ≡ Some answer → place ≡ Answered answer
collecting-cell n next collecting place word home answer shows e is = grind (arith, ⊎_elim)

-- ---- one cell of a sender changed by a worker

module _ (shape : Shape) (state first second : ℕ → ℕ) (home : ℕ → Home) (asking : Asking) (sender : Sender)
    (old : SenderShows shape state first second home asking sender) where
  -- the number whose word says that it waits
  pub waits : (n : ℕ) → 0 < shape.window → ((m : ℕ) → m % shape.window ≡ n % shape.window → state m ≡ state n) → state n ≡ asked_word n
      → (next_received asking ≤ n) × (n < next_received asking + shape.window) × (place_of sender n ≡ Waiting)
  waits n some_room turns e =
      let stands = standing shape some_room (next_received asking) (n % shape.window) (mod_below n shape.window some_room) in
      let shows : CellShows stands.0 (next_received asking) asking.collecting (place_of sender stands.0) (state stands.0) (home stands.0) =
      old.cells stands.0 stands.1 stands.2 in
      let it = asked-cell stands.0 (next_received asking) asking.collecting (place_of sender stands.0) (state stands.0) (home stands.0) n shows
      (turns stands.0 stands.3 ∙ e) in
      subst (λ (m : ℕ). (next_received asking ≤ m) × (m < next_received asking + shape.window) × (place_of sender m ≡ Waiting)) it.0
      (stands.1, stands.2, it.1)

  -- a number that isn't answered yet is at another place
  pub put-there : (state' : ℕ → ℕ) (home' : ℕ → Home) (n : ℕ) (place : Place)
      → next_received asking ≤ n → n < next_received asking + shape.window → state n < answered_word n
      → ((m : ℕ) → next_received asking ≤ m → m < next_received asking + shape.window → m ≢ n → (state' m ≡ state m) × (home' m ≡ home m))
      → n < length sender.places → CellShows n (next_received asking) asking.collecting place (state' n) (home' n)
      → SenderShows shape state' first second home' asking (puts n place sender)
  put-there state' home' n place from below early same there shows =
      grind (arith, cases_eq, cell-moved, get_or-set_same, get_or-set_other)
