-- A step of one seat leaves what the ring shows of the others.
use Rattle.std.proofs.Common.{◌≡◌, ◌≢◌, ℕ, ◌+◌, ◌<◌, List, length, set, inl, inr, sym, ◌∙◌, ap, subst, arith}
use Rattle.std.proofs.lemmas.Bool.{cases_eq}
use Rattle.std.proofs.lemmas.List.{length-set}
use mathlib.Core.Option.{some}
use lib.ListN.{get_elem?}
use Rattle.ticket_core.specs.declared.shape.Shape.{Shape}
use Rattle.ticket_core.specs.State.{Meaning, State, sender_at, hand_at, place_of, query_of}
use Rattle.ticket_core.specs.Sound.{IsSound}
use Rattle.ticket_core.specs.Runs.{once_finished}
use Rattle.ticket_core.proofs.CallerLemmas.{held-asked}
use Rattle.ticket_board.specs.Ring.Layout.{cells_in, words_in, state_at, first_at, second_at}
use Rattle.ticket_board.specs.Ring.Homes.{Home, home_at}
use Rattle.ticket_board.specs.Ring.Views.{Asking, Working, View, asker, worker, asking_at, working_at}
use Rattle.ticket_board.specs.Ring.Shows.{Board, IsKnown, SenderShows, WorkerShows, Seated, Sits, times, times_done, Shows}
use Rattle.ticket_board.proofs.ViewLemmas.{changed}
use Rattle.ticket_board.proofs.RingViews.{view-is, seat-there, view-else, view-here, times-set}
use Rattle.ticket_board.proofs.RingSenders.{carried}

module _ (meaning : Meaning) (shape : Shape) (key : List ℕ) (board : Board) (state : State) (shows : Shows meaning shape key board state) where
  -- a seat that keeps its role and its place
  reseated : (seat : ℕ) (old new : View) → Sits board seat old → Seated shape key (length board.views) seat new
      → (port : ℕ) (view : View) → get_elem? (set board.views seat new) port ≡ some view → Seated shape key (length (set board.views seat new)) port view
  reseated seat old new sits seated port view e =
      subst (λ (seats : ℕ). Seated shape key seats port view) (sym (length-set board.views seat new))
      (changed (Seated shape key (length board.views)) board.views seat new seated (λ j u _ at. shows.seated j u at) port view e)

  -- ---- a sender's step

  module _ (seat s : ℕ) (asking : Asking) (sits : Sits board seat (asker shape key s asking)) where
    pub asker-seated : Seated shape key (length board.views) seat (asker shape key s asking)
    asker-seated = shows.seated seat (asker shape key s asking) sits

    asker-there : seat < length board.views
    asker-there = seat-there board.views seat (asker shape key s asking) sits

    pub asking-is : asking_at board.views s ≡ asking
    asking-is = grind (arith, asker-seated, view-is)

    pub sender-shows : SenderShows shape (state_at shape board.words s) (first_at shape board.words s) (second_at shape board.words s) (home_at shape board.homes s) asking (sender_at state s)
    sender-shows = grind (arith, asking-is, asker-seated)

    module _ (words : List ℕ) (homes : List Home) (asking' : Asking) (new : State) where
      abbrev views_sent : List View
      views_sent = set board.views seat (asker shape key s asking')

      pub asking-else : (t : ℕ) → t ≢ s → asking_at views_sent t ≡ asking_at board.views t
      asking-else t ne = grind (arith, view-else, asker-seated)

      pub asking-here : asking_at views_sent s ≡ asking'
      asking-here = grind (arith, asker-seated, view-here, asker-there)

      pub working-same : (w : ℕ) → working_at shape views_sent w ≡ working_at shape board.views w
      working-same w = grind (arith, view-else, asker-seated)

      pub asker-frame : new.shape ≡ shape → new.key ≡ key → IsSound meaning new → length words ≡ words_in shape → length homes ≡ cells_in shape
          → SenderShows shape (state_at shape words s) (first_at shape words s) (second_at shape words s) (home_at shape homes s) asking' (sender_at new s)
          → ((t n : ℕ) → t ≢ s → (state_at shape words t n ≡ state_at shape board.words t n) × (first_at shape words t n ≡ first_at shape board.words t n)
          × (second_at shape words t n ≡ second_at shape board.words t n) × (home_at shape homes t n ≡ home_at shape board.homes t n))
          → ((t : ℕ) → t ≢ s → sender_at new t ≡ sender_at state t)
          → ((w : ℕ) → hand_at new w ≡ hand_at state w)
          → ((n : ℕ) → n < length (sender_at state s).asked → query_of (sender_at new s) n ≡ query_of (sender_at state s) n)
          → ((t n : ℕ) → once_finished (place_of (sender_at new t) n) ≡ once_finished (place_of (sender_at state t) n))
          → Shows meaning shape key (record { words = words; homes = homes; views = views_sent }) new
      asker-frame shape_is key_is sound in_words in_homes mine others senders hands queries counted = record {
        shape_is = shape_is;
        key_is = key_is;
        fits = shows.fits;
        sound = sound;
        words = in_words;
        homes = in_homes;
        seated = grind (arith, reseated, asker-seated);
        senders = λ t h. elim (cases_eq t s) [
          | inl e ↦ subst (λ (x : ℕ). SenderShows shape (state_at shape words x) (first_at shape words x) (second_at shape words x) (home_at shape homes x) (asking_at views_sent x) (sender_at new x)) (sym e)
              (subst (λ (x : Asking). SenderShows shape (state_at shape words s) (first_at shape words s) (second_at shape words s) (home_at shape homes s) x (sender_at new s)) (sym asking-here) mine)
          | inr ne ↦ carried shape (λ n. (others t n ne).0) (λ n. (others t n ne).1) (λ n. (others t n ne).2) (λ n. (others t n ne).3)
              (asking-else t ne) (senders t ne) (shows.senders t h)
        ];
        workers = λ w. subst (λ (x : Working). WorkerShows shape new w x) (sym (working-same w)) (record {
          hand = hands w ∙ (shows.workers w).hand;
          read = λ t n holds.
              let asked : n < length (sender_at state t).asked = held-asked meaning state shows.sound w t n ((shows.workers w).hand ∙ holds) in
              let same : query_of (sender_at new t) n ≡ query_of (sender_at state t) n = elim (cases_eq t s) [
                | inl e ↦ subst (λ (x : ℕ). n < length (sender_at state x).asked → query_of (sender_at new x) n ≡ query_of (sender_at state x) n) (sym e) (queries n) asked
                | inr ne ↦ ap (λ sender. query_of sender n) (senders t ne)
              ] in
              subst (IsKnown (working_at shape board.views w).read) (sym same) ((shows.workers w).read t n holds);
          seen = (shows.workers w).seen;
        });
        done = λ t n.
            let kept : times_done t n views_sent + 0 ≡ times_done t n board.views + 0 = times-set t n board.views seat (asker shape key s asking) (asker shape key s asking') sits in
            let was : times_done t n board.views ≡ once_finished (place_of (sender_at state t) n) = shows.done t n in
            let is : once_finished (place_of (sender_at new t) n) ≡ once_finished (place_of (sender_at state t) n) = counted t n in
            omega arith;
      }

  -- ---- a worker's step

  module _ (seat w : ℕ) (working : Working) (sits : Sits board seat (worker shape key w working)) where
    pub worker-seated : Seated shape key (length board.views) seat (worker shape key w working)
    worker-seated = shows.seated seat (worker shape key w working) sits

    worker-there : seat < length board.views
    worker-there = seat-there board.views seat (worker shape key w working) sits

    pub working-is : working_at shape board.views w ≡ working
    working-is = grind (arith, worker-seated, view-is)

    pub worker-shows : WorkerShows shape state w working
    worker-shows = subst (λ (x : Working). WorkerShows shape state w x) working-is (shows.workers w)

    module _ (words : List ℕ) (homes : List Home) (working' : Working) (new : State) where
      abbrev views_worked : List View
      views_worked = set board.views seat (worker shape key w working')

      pub asking-same : (t : ℕ) → t < shape.senders → asking_at views_worked t ≡ asking_at board.views t
      asking-same t h = grind (arith, view-else, worker-seated)

      pub working-else : (v : ℕ) → v ≢ w → working_at shape views_worked v ≡ working_at shape board.views v
      working-else v ne = grind (arith, view-else, worker-seated)

      pub working-here : working_at shape views_worked w ≡ working'
      working-here = grind (arith, worker-seated, view-here, worker-there)

      pub worker-frame : new.shape ≡ shape → new.key ≡ key → IsSound meaning new → length words ≡ words_in shape → length homes ≡ cells_in shape
          → ((t : ℕ) → t < shape.senders
          → SenderShows shape (state_at shape words t) (first_at shape words t) (second_at shape words t) (home_at shape homes t) (asking_at board.views t) (sender_at new t))
          → WorkerShows shape new w working'
          → ((v : ℕ) → v ≢ w → hand_at new v ≡ hand_at state v)
          → ((t n : ℕ) → query_of (sender_at new t) n ≡ query_of (sender_at state t) n)
          → ((t n : ℕ) → times t n working'.done + once_finished (place_of (sender_at state t) n) ≡ times t n working.done + once_finished (place_of (sender_at new t) n))
          → Shows meaning shape key (record { words = words; homes = homes; views = views_worked }) new
      worker-frame shape_is key_is sound in_words in_homes senders mine hands queries counted = record {
        shape_is = shape_is;
        key_is = key_is;
        fits = shows.fits;
        sound = sound;
        words = in_words;
        homes = in_homes;
        seated = grind (arith, reseated, worker-seated);
        senders = λ t h. grind (arith, asking-same);
        workers = λ v. grind (arith, cases_eq, working-here, working-else);
        done = λ t n.
            let kept : times_done t n views_worked + times t n working.done ≡ times_done t n board.views + times t n working'.done =
            times-set t n board.views seat (worker shape key w working) (worker shape key w working') sits in
            let was : times_done t n board.views ≡ once_finished (place_of (sender_at state t) n) = shows.done t n in
            let is : times t n working'.done + once_finished (place_of (sender_at state t) n) ≡ times t n working.done + once_finished (place_of (sender_at new t) n) = counted t n in
            omega arith;
      }
