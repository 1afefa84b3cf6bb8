-- Each step of a worker keeps the rule of the ring's table.
use Rattle.std.proofs.Common.{◌≡◌, ℕ, ◌+◌, ◌*◌, ◌/◌, ◌%◌, ◌<◌, Bool, true, false, eqb, if◌then◌else◌, List, ◌∷◌, length, map, get_or, set, Option, Some, None, inl, inr, ⊎_elim, refl, sym, ◌∙◌, ap, subst, eq-eqb, arith}
use Rattle.std.proofs.lemmas.Bool.{cases_eq, ne_eqb}
use Rattle.std.proofs.lemmas.List.{map-set}
use Rattle.std.proofs.lemmas.Nat.{div_below, mod_below, div-add-mod'}
use prog.Atomic.{either}
use mathlib.Core.Option as maybe
use lib.ListN.{get_elem?}
use Rattle.atomic_table.specs.Table as table
use Rattle.ticket_core.specs.declared.query.Query.{Query}
use Rattle.ticket_core.specs.declared.shape.Shape.{Shape}
use Rattle.ticket_core.specs.Query.{AreWords}
use Rattle.ticket_core.specs.State.{Shown, Meaning, Place, State, sender_at, place_of}
use Rattle.ticket_board.specs.Ring.Layout.{cell_of, cells_in, cell_words, state_field, word_of, state_place, first_place, second_place, state_at, asked_word, taken_word, answered_word}
use Rattle.ticket_board.specs.Ring.Homes.{Home, home_at}
use Rattle.ticket_board.specs.Ring.Views.{FirstWord, Whole, Working, Role, Works, Stamped, worker, working_of, next_received, asking_at}
use Rattle.ticket_board.specs.Ring.Shows.{Board, CellShows, Seated, Sits, Shows}
use Rattle.ticket_board.specs.Ring.Steps.{WorkerStep, MayWork, word_worked, words_worked, homes_worked, LooksAt, Takes, ReadsFirst, ReadsSecond, Answers, GivesBack, working_after}
use Rattle.ticket_board.specs.Ring.Moves as Moves
use Rattle.ticket_board.specs.Ring.Moves.{Occurs}
use Rattle.ticket_board.specs.Ring.Rule.{home_shown, board_shown, views_of, lasts_of, Holds, worker_of, IsWorker, IsOfCell, KnowsWorked, KnowsLooked, KnowsTried, KnowsSecond}
use Rattle.ticket_board.proofs.RingPlaces.{standing}
use Rattle.ticket_board.proofs.RingWorkerSteps.{are-words, slot-waits}
use Rattle.ticket_board.proofs.RingMoves.{made-on}
use Rattle.ticket_board.proofs.RingSeat.{core, seated, known, MadeWith, Ends, put-back, sits-as, sits-there, made-with, occurs}
use Rattle.ticket_board.proofs.RingHomes.{set-same, home-empty}

pub is-worker : (role : Role) → IsWorker role → role ≡ Works (worker_of role) (working_of role)
is-worker role h = grind arith

-- ---- the number in a state word

number-of : (n next : ℕ) (collecting : Option Shown) (place : Place) (word : ℕ) (home : Home) → CellShows n next collecting place word home → word / 8 ≡ n
number-of n next collecting place word home shows = grind (arith, ⊎_elim)

-- a cell's state word is of a number that uses the cell
of-cell : (meaning : Meaning) (shape : Shape) (key : List ℕ) (board : Board) (state : State) → Shows meaning shape key board state
    → (cell : ℕ) → cell < cells_in shape → IsOfCell shape cell (get_or board.words (word_of cell state_field) 0)
of-cell meaning shape key board state shows cell within =
    let some_room : 0 < shape.window = shows.fits.4 in
    let s : ℕ = cell / shape.window in
    let below : s < shape.senders = div_below cell shape.window shape.senders some_room within in
    let stands = standing shape some_room (next_received (asking_at board.views s)) (cell % shape.window) (mod_below cell shape.window some_room) in
    let here : cell_of shape s stands.0 ≡ cell = ap (λ (k : ℕ). s * shape.window + k) stands.3 ∙ div-add-mod' cell shape.window in
    let number : state_at shape board.words s stands.0 / 8 ≡ stands.0 =
    number-of stands.0 (next_received (asking_at board.views s)) (asking_at board.views s).collecting (place_of (sender_at state s) stands.0)
    (state_at shape board.words s stands.0) (home_at shape board.homes s stands.0) ((shows.senders s below).cells stands.0 stands.1 stands.2) in
    ap (λ (c : ℕ). get_or board.words (word_of c state_field) 0 / 8 % shape.window) (sym here) ∙ ap (λ (k : ℕ). k % shape.window) number ∙ stands.3

module _ {A : Type 0} (shown : A → Shown) (meaning : Meaning) (shape : Shape) (key : List ℕ) (slots id : ℕ) (me : table.Me (Option A) Stamped)
    (works : IsWorker me.0.view.role) where
  abbrev w : ℕ
  w = worker_of me.0.view.role

  abbrev working : Working
  working = working_of me.0.view.role

  abbrev Allowed : ℕ → (ℕ → ℕ) → (ℕ → table.Me (Option A) Stamped → Type 0) → Type 0
  Allowed place change told = table.Allows (Holds shown meaning shape key) slots id me place change told

  role-is : me.0.view.role ≡ Works w working
  role-is = is-worker me.0.view.role works

  -- ---- any step

  module _ (state : table.State (Option A) Stamped) (holds : Holds shown meaning shape key state) (sits : get_elem? state.views id ≡ maybe.some me.0) where
    now : (core : State) × Shows meaning shape key (board_shown shown state) core
    now = core shown meaning shape key id me state holds sits

    mine : Seated shape key (length (views_of state.views)) id me.0.view
    mine = seated shown meaning shape key id me state holds sits

    mine-sits : Sits (board_shown shown state) id (worker shape key w working)
    mine-sits = sits-as shown meaning shape key id me state holds sits (Works w working) role-is

    place-is : (place : ℕ) (step : WorkerStep) → place ≡ word_worked me.0.view.shape step → place ≡ word_worked shape step
    place-is place step at = at ∙ ap (λ (x : Shape). word_worked x step) mine.shape_is

    abbrev Made : List ℕ → List Home → Working → Type 0
    Made words homes new = MadeWith shown meaning shape key id me state holds sits words homes (Works w new)

    -- a step that leaves the words and the slots as the move does
    works-on : (place word : ℕ) (step : WorkerStep) (act : table.Act (Option A)) (carried : List (ℕ × Option A))
        → place ≡ word_worked me.0.view.shape step → MayWork meaning shape key working step → table.Valid state.homes me.1 act
        → set state.words place word ≡ words_worked shape step (get_or state.words place 0) state.words
        → map (home_shown shown) (table.homes_after state.homes me.1 act) ≡ homes_worked shape step (get_or state.words place 0) (map (home_shown shown) state.homes)
        → table.carried_after me.1 act ≡ carried
        → Ends shown meaning shape key id me state holds sits place word (λ new. KnowsWorked step (get_or state.words place 0) carried me new × Occurs meaning new.0.view)
    works-on place word step act carried at may valid words homes slots_are =
        let new : Working = working_after shape working step (get_or state.words place 0) in
        let made : Made (set state.words place word) (map (home_shown shown) (table.homes_after state.homes me.1 act)) (working_after shape working step (get_or state.words place 0)) =
        subst (λ (x : List ℕ × List Home). Made x.0 x.1 (working_after shape working step (get_or state.words place 0))) (λ i. (sym words i, sym homes i))
        (subst (λ (x : ℕ). Made (words_worked shape step (get_or state.words x 0) state.words) (homes_worked shape step (get_or state.words x 0) (map (home_shown shown) state.homes))
        (working_after shape working step (get_or state.words x 0))) (sym (place-is place step at))
        (made-with shown meaning shape key id me state holds sits (Works w working) role-is _ _ _
        (made-on meaning shape key (board_shown shown state) (lasts_of state.views) holds (Moves.Works w working step)
        (sits-there shown meaning shape key id me state holds sits (Works w working) role-is, may)))) in (
          known shown meaning shape key id me state holds sits (Works w new),
          act,
          valid,
          made,
          (
            ((λ i. worker (sym mine.shape_is i) (sym mine.key_is i) w (working_after (sym mine.shape_is i) working step (get_or state.words place 0))), slots_are),
            occurs shown meaning shape key id me state holds sits (Works w working) role-is _ _ (Works w new) refl made,
          ),
        )

  -- ---- a cell is looked at

  pub looks-allowed : (place cell : ℕ) → working.hand ≡ None → cell < cells_in me.0.view.shape → place ≡ word_of cell state_field
      → Allowed place (λ word. word) (λ word new. KnowsLooked cell word me new × Occurs meaning new.0.view)
  looks-allowed place cell empty within at state holds deep sits fits =
      let shape_is : me.0.view.shape ≡ shape = (mine state holds sits).shape_is in
      let within' : cell < cells_in shape = subst (λ (x : Shape). cell < cells_in x) shape_is within in
      let of : IsOfCell shape cell (get_or state.words (word_of cell state_field) 0) =
      of-cell meaning shape key (board_shown shown state) (now state holds sits).0 (now state holds sits).1 cell within' in
      let it = works-on state holds sits place (get_or state.words place 0) (LooksAt cell) table.keeps me.1 at (empty, within') tt (set-same state.words place) refl refl in
      (it.0, it.1, it.2, it.3, ((it.4.0, subst (λ (x : Shape × ℕ). IsOfCell x.0 cell (get_or state.words x.1 0)) (λ i. (sym shape_is i, sym at i)) of), it.4.1))

  -- the cell is told by the word's place
  cell-of-word : (place cell : ℕ) → place ≡ word_of cell state_field → place / cell_words ≡ cell
  cell-of-word place cell at = omega arith

  pub looks-at-word : (place cell : ℕ) → working.hand ≡ None → cell < cells_in me.0.view.shape → place ≡ word_of cell state_field
      → Allowed place (λ word. word) (λ word new. KnowsLooked (place / cell_words) word me new × Occurs meaning new.0.view)
  looks-at-word place cell empty within at = grind (arith, cell-of-word, looks-allowed)

  -- ---- a number is tried

  module _ (place s n : ℕ) (empty : working.hand ≡ None) (saw : working.seen ≡ Some (s, n)) (at : place ≡ state_place me.0.view.shape s n)
      (state : table.State (Option A) Stamped) (holds : Holds shown meaning shape key state) (sits : get_elem? state.views id ≡ maybe.some me.0) where
    abbrev word : ℕ
    word = get_or state.words place 0

    -- a step that keeps the rule, where it hits and where it misses
    abbrev Tries : Bool → Type 0
    Tries hit = Ends shown meaning shape key id me state holds sits place (either hit (taken_word n) word)
        (λ new. KnowsWorked (Takes s n) word (if hit then (cell_of me.0.view.shape s n, None) ∷ me.1 else me.1) me new × Occurs meaning new.0.view)

    at' : place ≡ state_place shape s n
    at' = place-is state holds sits place (Takes s n) at

    tries : Tries (eqb word (asked_word n))
    tries = elim (cases_eq word (asked_word n)) [
      | inl is ↦ (
          let yes : eqb word (asked_word n) ≡ true = eq-eqb word (asked_word n) is in
          let waits : state_at shape state.words s n ≡ asked_word n = ap (λ (x : ℕ). get_or state.words x 0) (sym at') ∙ is in
          subst Tries (sym yes)
          (works-on state holds sits place (taken_word n) (Takes s n) (table.takes (cell_of shape s n) None) ((cell_of me.0.view.shape s n, None) ∷ me.1) at (empty, saw)
          (home-empty shown state.homes (cell_of shape s n)
          (slot-waits meaning shape key (board_shown shown state) (now state holds sits).0 (now state holds sits).1 id w working (mine-sits state holds sits) s n empty saw waits))
          (rw yes (ap (λ (x : ℕ). set state.words x (taken_word n)) at')) (rw yes (map-set (home_shown shown) state.homes (cell_of shape s n) maybe.none))
          (ap (λ (x : Shape). (cell_of x s n, None) ∷ me.1) (sym (mine state holds sits).shape_is))))
      | inr ne ↦ (
          let no : eqb word (asked_word n) ≡ false = ne_eqb word (asked_word n) ne in
          subst Tries (sym no)
          (works-on state holds sits place word (Takes s n) table.keeps me.1 at (empty, saw) tt (rw no (set-same state.words place)) (rw no refl) refl))
    ]

  pub tries-allowed : (place asked taken s n : ℕ) → working.hand ≡ None → working.seen ≡ Some (s, n) → place ≡ state_place me.0.view.shape s n
      → asked ≡ asked_word n → taken ≡ taken_word n
      → Allowed place (λ word. either (eqb word asked) taken word) (λ word new. KnowsTried (s, n) word me new × Occurs meaning new.0.view)
  tries-allowed place asked taken s n empty saw at is is' =
      subst (λ (x : ℕ × ℕ). Allowed place (λ word. either (eqb word x.0) x.1 word) (λ word new. KnowsTried (s, n) word me new × Occurs meaning new.0.view))
      (λ i. (sym is i, sym is' i)) (λ state holds deep sits fits. tries place s n empty saw at state holds sits)

  -- ---- the query of the number in its hand

  pub first-allowed : (place s n : ℕ) → working.hand ≡ Some (s, n) → place ≡ first_place me.0.view.shape s n
      → Allowed place (λ word. word) (λ word new. KnowsWorked (ReadsFirst s n) word me.1 me new × Occurs meaning new.0.view)
  first-allowed place s n holding at state holds deep sits fits =
      works-on state holds sits place (get_or state.words place 0) (ReadsFirst s n) table.keeps me.1 at holding tt (set-same state.words place) refl refl

  pub second-allowed : (place s n first : ℕ) → working.hand ≡ Some (s, n) → working.read ≡ FirstWord first → place ≡ second_place me.0.view.shape s n
      → Allowed place (λ word. word) (λ word new. KnowsSecond (s, n) first word me new × Occurs meaning new.0.view)
  second-allowed place s n first holding read at state holds deep sits fits =
      let both = are-words meaning shape key (board_shown shown state) (now state holds sits).0 (now state holds sits).1 id w working (mine-sits state holds sits) s n first holding read in
      let it = works-on state holds sits place (get_or state.words place 0) (ReadsSecond s n first) table.keeps me.1 at (holding, read) tt (set-same state.words place) refl refl in
      (it.0, it.1, it.2, it.3, ((it.4.0, subst (λ (x : ℕ). AreWords first (get_or state.words x 0)) (sym (place-is state holds sits place (ReadsSecond s n first) at)) both), it.4.1))

  -- ---- the number in its hand is put down

  pub answers-allowed : (place word s n : ℕ) (query : Query) (answer : A) → working.hand ≡ Some (s, n) → working.read ≡ Whole query → shown answer ≡ meaning me.0.view.key query
      → me.1 ≡ (cell_of me.0.view.shape s n, Some answer) ∷ table.rest me.1 → place ≡ state_place me.0.view.shape s n → word ≡ answered_word n
      → Allowed place (λ _. word) (λ _ new. KnowsWorked (Answers s n query (shown answer)) 0 (table.rest me.1) me new × Occurs meaning new.0.view)
  answers-allowed place word s n query answer holding read right carries at is state holds deep sits fits =
      let right' : shown answer ≡ meaning key query = right ∙ ap (λ (x : List ℕ). meaning x query) (mine state holds sits).key_is in
      let at' : place ≡ state_place shape s n = place-is state holds sits place (GivesBack s n) at in
      works-on state holds sits place word (Answers s n query (shown answer)) table.gives (table.rest me.1) at (holding, read, right') tt
      (λ i. set state.words (at' i) (is i)) (put-back shown meaning shape key id me state holds sits s n (Some answer) carries) refl

  pub gives-allowed : (place word s n : ℕ) → working.hand ≡ Some (s, n)
      → me.1 ≡ (cell_of me.0.view.shape s n, None) ∷ table.rest me.1 → place ≡ state_place me.0.view.shape s n → word ≡ asked_word n
      → Allowed place (λ _. word) (λ _ new. KnowsWorked (GivesBack s n) 0 (table.rest me.1) me new × Occurs meaning new.0.view)
  gives-allowed place word s n holding carries at is state holds deep sits fits =
      let at' : place ≡ state_place shape s n = place-is state holds sits place (GivesBack s n) at in
      works-on state holds sits place word (GivesBack s n) table.gives (table.rest me.1) at holding tt
      (λ i. set state.words (at' i) (is i)) (put-back shown meaning shape key id me state holds sits s n None carries) refl
