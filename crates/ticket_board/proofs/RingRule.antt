-- Each step of a sender keeps the rule of the ring's table.
use Rattle.std.proofs.Common.{◌≡◌, ℕ, ◌+◌, true, List, ◌∷◌, length, map, get_or, set, Option, Some, None, refl, sym, ◌∙◌, ap, subst, arith}
use Rattle.std.proofs.lemmas.List.{map-set}
use mathlib.Core.Option as maybe
use lib.ListN.{get_elem?}
use Rattle.atomic_table.specs.Table as table
use Rattle.ticket_core.specs.declared.query.Query.{Query}
use Rattle.ticket_core.specs.declared.query.QueryKind.TheVariants.{Address}
use Rattle.ticket_core.specs.declared.shape.Shape.{Shape}
use Rattle.ticket_core.specs.Query.{IsQuery, first_word, second_word, of_words}
use Rattle.ticket_core.specs.State.{Shown, Meaning}
use Rattle.ticket_core.proofs.QueryLemmas.{of_words-words}
use Rattle.ticket_board.specs.Ring.Layout.{cell_of, state_place, first_place, second_place, state_at, free_word, asked_word, collecting_word}
use Rattle.ticket_board.specs.Ring.Homes.{Home, Out, Full, home_at, answer_at_home}
use Rattle.ticket_board.specs.Ring.Views.{FirstWord, Whole, first_known, Asking, Role, Asks, Stamped, asker, asking_of, next_asked, next_received, HasRoom}
use Rattle.ticket_board.specs.Ring.Shows.{Seated}
use Rattle.ticket_board.specs.Ring.Steps.{SenderStep, MaySend, words_sent, homes_sent, WritesFirst, WritesSecond, Publishes, LooksNext, BringsOut, Receives, asking_after}
use Rattle.ticket_board.specs.Ring.Moves.{Sends, Occurs}
use Rattle.ticket_board.specs.Ring.Rule.{home_shown, board_shown, views_of, lasts_of, Holds, sender_of, IsSender, ahead_of, collecting_of, KnowsSent, KnowsAnswer}
use Rattle.ticket_board.proofs.RingSenderSteps.{has-answer, right-answer}
use Rattle.ticket_board.proofs.RingMoves.{made-on}
use Rattle.ticket_board.proofs.RingSeat.{core, seated, known, MadeWith, Ends, put-back, sits-as, sits-there, made-with, occurs}
use Rattle.ticket_board.proofs.RingHomes.{set-same, home-full}

pub is-sender : (role : Role) → IsSender role → role ≡ Asks (sender_of role) (asking_of role)
is-sender role h = grind arith

module _ {A : Type 0} (shown : A → Shown) (meaning : Meaning) (shape : Shape) (key : List ℕ) (slots id : ℕ) (me : table.Me (Option A) Stamped)
    (sender : IsSender me.0.view.role) where
  abbrev s : ℕ
  s = sender_of me.0.view.role

  abbrev asking : Asking
  asking = asking_of me.0.view.role

  abbrev Allowed : ℕ → (ℕ → ℕ) → (ℕ → table.Me (Option A) Stamped → Type 0) → Type 0
  Allowed place change told = table.Allows (Holds shown meaning shape key) slots id me place change told

  role-is : me.0.view.role ≡ Asks s asking
  role-is = is-sender me.0.view.role sender

  -- ---- any step

  module _ (state : table.State (Option A) Stamped) (holds : Holds shown meaning shape key state) (sits : get_elem? state.views id ≡ maybe.some me.0) where
    mine : Seated shape key (length (views_of state.views)) id me.0.view
    mine = seated shown meaning shape key id me state holds sits

    abbrev Made : List ℕ → List Home → Asking → Type 0
    Made words homes new = MadeWith shown meaning shape key id me state holds sits words homes (Asks s new)

    place-is : (at : Shape → ℕ → ℕ → ℕ) (place n : ℕ) → place ≡ at me.0.view.shape s n → place ≡ at shape s n
    place-is at place n is = is ∙ ap (λ (x : Shape). at x s n) mine.shape_is

    -- a step that leaves the words and the slots as the move does
    sends-on : (place word : ℕ) (step : SenderStep) (act : table.Act (Option A)) (carried : List (ℕ × Option A)) (found : ℕ) (home : Home)
        → MaySend shape asking step → table.Valid state.homes me.1 act
        → set state.words place word ≡ words_sent shape s asking step state.words
        → map (home_shown shown) (table.homes_after state.homes me.1 act) ≡ homes_sent shape s asking step (map (home_shown shown) state.homes)
        → asking_after asking step found home
        ≡ asking_after asking step (state_at shape state.words s (next_received asking)) (home_at shape (map (home_shown shown) state.homes) s (next_received asking))
        → table.carried_after me.1 act ≡ carried
        → Ends shown meaning shape key id me state holds sits place word (λ new. KnowsSent step found home carried me new × Occurs meaning new.0.view)
    sends-on place word step act carried found home may valid words homes same slots_are =
        let new : Asking = asking_after asking step found home in
        let made : Made (set state.words place word) (map (home_shown shown) (table.homes_after state.homes me.1 act)) (asking_after asking step found home) =
        subst (λ (x : List ℕ × List Home × Asking). Made x.0 x.1 x.2) (λ i. (sym words i, sym homes i, sym same i))
        (made-with shown meaning shape key id me state holds sits (Asks s asking) role-is _ _ _
        (made-on meaning shape key (board_shown shown state) (lasts_of state.views) holds (Sends s asking step)
        (sits-there shown meaning shape key id me state holds sits (Asks s asking) role-is, may))) in (
          known shown meaning shape key id me state holds sits (Asks s new),
          act,
          valid,
          made,
          (
            ((λ i. asker (sym mine.shape_is i) (sym mine.key_is i) s new), slots_are),
            occurs shown meaning shape key id me state holds sits (Asks s asking) role-is _ _ (Asks s new) refl made,
          ),
        )

  -- ---- a number is asked

  pub first-allowed : (place word : ℕ) → HasRoom me.0.view.shape asking → place ≡ first_place me.0.view.shape s (next_asked asking)
      → Allowed place (λ _. word) (λ _. KnowsSent (WritesFirst word) 0 Out me.1 me)
  first-allowed place word room at state holds deep sits fits =
      let it = sends-on state holds sits place word (WritesFirst word) table.keeps me.1 0 Out (subst (λ (x : Shape). HasRoom x asking) (mine state holds sits).shape_is room) tt
      (ap (λ (x : ℕ). set state.words x word) (place-is state holds sits first_place place (next_asked asking) at)) refl refl refl in
      (it.0, it.1, it.2, it.3, it.4.0)

  pub second-allowed : (place word : ℕ) (query : Query) → asking.ahead ≡ FirstWord (first_word query) → IsQuery query → word ≡ second_word query
      → place ≡ second_place me.0.view.shape s (next_asked asking)
      → Allowed place (λ _. word) (λ _. KnowsSent (WritesSecond query) 0 Out me.1 me)
  second-allowed place word query written valid is at state holds deep sits fits =
      let at' : place ≡ second_place shape s (next_asked asking) = place-is state holds sits second_place place (next_asked asking) at in
      let it = sends-on state holds sits place word (WritesSecond query) table.keeps me.1 0 Out (written, valid) tt (λ i. set state.words (at' i) (is i)) refl refl refl in
      (it.0, it.1, it.2, it.3, it.4.0)

  -- the query is told by its words
  pub ahead-is : (word : ℕ) (query : Query) → asking.ahead ≡ FirstWord (first_word query) → IsQuery query → word ≡ second_word query
      → of_words (first_known asking.ahead) word ≡ query
  ahead-is word query written valid is = (λ i. of_words (first_known (written i)) (is i)) ∙ of_words-words query valid

  pub second-word-allowed : (place word : ℕ) (query : Query) → asking.ahead ≡ FirstWord (first_word query) → IsQuery query → word ≡ second_word query
      → place ≡ second_place me.0.view.shape s (next_asked asking)
      → Allowed place (λ _. word) (λ _. KnowsSent (WritesSecond (of_words (first_known asking.ahead) word)) 0 Out me.1 me)
  second-word-allowed place word query written valid is at = grind (arith, ahead-is, second-allowed)

  pub publishes-allowed : (place word : ℕ) → asking.ahead ≡ Whole (ahead_of me.0.view.role) → place ≡ state_place me.0.view.shape s (next_asked asking)
      → word ≡ asked_word (next_asked asking)
      → Allowed place (λ _. word) (λ _ new. KnowsSent (Publishes (ahead_of me.0.view.role)) 0 Out me.1 me new × Occurs meaning new.0.view)
  publishes-allowed place word written at is state holds deep sits fits =
      let at' : place ≡ state_place shape s (next_asked asking) = place-is state holds sits state_place place (next_asked asking) at in
      sends-on state holds sits place word (Publishes (ahead_of me.0.view.role)) table.keeps me.1 0 Out written tt (λ i. set state.words (at' i) (is i)) refl refl refl

  -- ---- an answer is looked for, brought out and received

  pub looks-allowed : (place : ℕ) → asking.collecting ≡ None → place ≡ state_place me.0.view.shape s (next_received asking)
      → Allowed place (λ word. word) (λ word new. KnowsSent LooksNext word Out me.1 me new × Occurs meaning new.0.view)
  looks-allowed place idle at state holds deep sits fits =
      sends-on state holds sits place (get_or state.words place 0) LooksNext table.keeps me.1 (get_or state.words place 0) Out idle tt (set-same state.words place) refl
      (ap (λ (x : ℕ). asking_after asking LooksNext (get_or state.words x 0) Out) (place-is state holds sits state_place place (next_received asking) at)) refl

  pub brings-allowed : (place word : ℕ) → asking.found ≡ true → place ≡ state_place me.0.view.shape s (next_received asking)
      → word ≡ collecting_word (next_received asking)
      → Allowed place (λ _. word) (λ _ new. (answer : A) × KnowsAnswer shown meaning answer me new)
  brings-allowed place word found at is state holds deep sits fits =
      let at' : place ≡ state_place shape s (next_received asking) = place-is state holds sits state_place place (next_received asking) at in
      let now = core shown meaning shape key id me state holds sits in
      let mine-sits = sits-as shown meaning shape key id me state holds sits (Asks s asking) role-is in
      let there = has-answer meaning shape key (board_shown shown state) now.0 id s asking now.1 mine-sits found in
      let stood = home-full shown state.homes (cell_of shape s (next_received asking)) (answer_at_home (home_at shape (map (home_shown shown) state.homes) s (next_received asking))) there.0 in
      let right = right-answer meaning shape key (board_shown shown state) now.0 id s asking now.1 mine-sits found in
      let it = sends-on state holds sits place word BringsOut (table.takes (cell_of shape s (next_received asking)) (Some stood.0))
      ((cell_of me.0.view.shape s (next_received asking), Some stood.0) ∷ me.1) 0 (Full (shown stood.0)) found stood.1 (λ i. set state.words (at' i) (is i))
      (map-set (home_shown shown) state.homes (cell_of shape s (next_received asking)) maybe.none) (λ i. asking_after asking BringsOut 0 (Full (stood.2 i)))
      (ap (λ (x : Shape). (cell_of x s (next_received asking), Some stood.0) ∷ me.1) (sym (mine state holds sits).shape_is)) in (
        it.0,
        it.1,
        it.2,
        it.3,
        (
          stood.0,
          (
            right.0,
            stood.2 ∙ right.1 ∙ (λ i. meaning (sym (mine state holds sits).key_is i) (get_or asking.asked (next_received asking) (Address 0))),
            it.4.0,
          ),
        ),
      )

  pub receives-allowed : (place word : ℕ) → asking.collecting ≡ Some (collecting_of me.0.view.role)
      → me.1 ≡ (cell_of me.0.view.shape s (next_received asking), None) ∷ table.rest me.1
      → place ≡ state_place me.0.view.shape s (next_received asking) → word ≡ free_word (next_received asking + me.0.view.shape.window)
      → Allowed place (λ _. word) (λ _ new. KnowsSent (Receives (collecting_of me.0.view.role)) 0 Out (table.rest me.1) me new × Occurs meaning new.0.view)
  receives-allowed place word out carries at is state holds deep sits fits =
      let at' : place ≡ state_place shape s (next_received asking) = place-is state holds sits state_place place (next_received asking) at in
      let is' : word ≡ free_word (next_received asking + shape.window) = is ∙ ap (λ (x : Shape). free_word (next_received asking + x.window)) (mine state holds sits).shape_is in
      sends-on state holds sits place word (Receives (collecting_of me.0.view.role)) table.gives (table.rest me.1) 0 Out out tt
      (λ i. set state.words (at' i) (is' i)) (put-back shown meaning shape key id me state holds sits s (next_received asking) None carries) refl refl
