-- What the ring shows when it is opened, and when a seat is cut off.
use Rattle.std.proofs.Common.{◌≡◌, ◌≢◌, ℕ, suc, ◌+◌, ◌-◌, ◌<◌, Bool, ltb, if◌then◌else◌, List, [], ◌∷◌, ◌++◌, length, replicate, set, refl, sym, ◌∙◌, ap, subst, mod-eq_of_lt, arith}
use Rattle.std.proofs.lemmas.Bool.{cases_lt, lt-ltb, le-ltb}
use Rattle.std.proofs.lemmas.List.{length-append, length-set, length-replicate, get_or-replicate, get_or_past, get_or-set_other}
use Rattle.std.proofs.lemmas.Nat.{mod-mul-add, mod_below}
use mathlib.Core.Option.{some}
use lib.ListN.{get_elem?}
use Rattle.ticket_core.specs.declared.shape.Shape.{Shape}
use Rattle.ticket_core.specs.Shape.{Fits}
use Rattle.ticket_core.specs.State.{Meaning, Sender, fresh, State, opening}
use Rattle.ticket_core.specs.Runs.{once_finished}
use Rattle.ticket_core.proofs.ReadLemmas.{appended}
use Rattle.ticket_core.proofs.StepLemmas.{opening-sender, opening-place, opening-hand, opening-sound}
use Rattle.ticket_board.specs.Ring.Layout.{cell_of, cells_in, state_at, first_at, second_at, free_word}
use Rattle.ticket_board.specs.Ring.Homes.{Out, Empty, home_at}
use Rattle.ticket_board.specs.Ring.Views.{Asking, Working, Role, Asks, Works, View, opener, nobody, new_asking, new_working, sender_seat, worker_seat, view_at, asking_of, working_of, asking_at, working_at}
use Rattle.ticket_board.specs.Ring.Shows.{Board, SenderShows, WorkerShows, Seated, StandsAt, Sits, times, times_done, Shows}
use Rattle.ticket_board.specs.Ring.Opening.{AreFree, opened, next_seat, cut_off}
use Rattle.ticket_board.proofs.ViewLemmas.{changed, added}
use Rattle.ticket_board.proofs.RingPlaces.{cell-within}
use Rattle.ticket_board.proofs.RingViews.{times-set}

-- ---- the opening

module _ (meaning : Meaning) (shape : Shape) (key : List ℕ) (fits : Fits shape) (words : List ℕ) (free : AreFree shape words) where
  some_room : 0 < shape.window
  some_room = fits.4

  abbrev first_state : State
  first_state = opening shape key

  abbrev first_views : List View
  first_views = opener shape key 0 ∷ []

  asking-is-new : (s : ℕ) → asking_at first_views s ≡ new_asking
  asking-is-new s = ap (λ (view : View). asking_of view.role) (get_or_past first_views (sender_seat s) nobody (omega arith))

  working-is-new : (w : ℕ) → working_at shape first_views w ≡ new_working
  working-is-new w = ap (λ (view : View). working_of view.role) (get_or_past first_views (worker_seat shape w) nobody (omega arith))

  state-free : (s n : ℕ) → s < shape.senders → n < shape.window → state_at shape words s n ≡ free_word n
  state-free s n h below = grind (arith, mod-eq_of_lt, mod-mul-add, mod_below, some_room, cell-within)

  home-empty : (s n : ℕ) → s < shape.senders → home_at shape (replicate (cells_in shape) Empty) s n ≡ Empty
  home-empty s n h = get_or-replicate (cells_in shape) (cell_of shape s n) Empty Out (cell-within shape some_room s n h)

  new-shows : (s : ℕ) → s < shape.senders
      → SenderShows shape (state_at shape words s) (first_at shape words s) (second_at shape words s) (home_at shape (replicate (cells_in shape) Empty) s) new_asking fresh
  new-shows s h = grind (arith, get_or_past, state-free, home-empty)

  first-seated : (seat : ℕ) (view : View) → get_elem? first_views seat ≡ some view → Seated shape key (length first_views) seat view
  first-seated seat view e = grind arith

  pub opens : Shows meaning shape key (opened shape key words) (opening shape key)
  opens = record {
    shape_is = refl;
    key_is = refl;
    fits = fits;
    sound = opening-sound meaning shape key;
    words = free.size;
    homes = length-replicate (cells_in shape) Empty;
    seated = first-seated;
    senders = λ s h. subst (λ (x : Asking × Sender).
        SenderShows shape (state_at shape words s) (first_at shape words s) (second_at shape words s) (home_at shape (replicate (cells_in shape) Empty) s) x.0 x.1)
        (λ i. (sym (asking-is-new s) i, sym (opening-sender meaning shape key s) i)) (new-shows s h);
    workers = λ w. subst (λ (x : Working). WorkerShows shape first_state w x) (sym (working-is-new w)) (record {
      hand = opening-hand meaning shape key w;
      read = λ s n e. absurd (cc);
      seen = λ s n e. absurd (cc);
    });
    done = λ s n. sym (ap once_finished (opening-place meaning shape key s n));
  }

-- ---- a seat is cut off

-- the new seat knows what a seat that isn't there knows
next-new : (shape : Shape) (cut : ℕ) (b : Bool) (role : Role) → role ≡ (if b then Asks cut new_asking else Works (cut - shape.senders) new_working)
    → (asking_of role ≡ new_asking) × (working_of role ≡ new_working)
next-new shape cut b role is = grind arith

next-stands : (shape : Shape) (cut seats : ℕ) → cut < shape.senders + shape.workers
    → StandsAt shape seats (suc cut) (if ltb cut shape.senders then Asks cut new_asking else Works (cut - shape.senders) new_working)
next-stands shape cut seats h = grind (arith, cases_lt, lt-ltb, le-ltb)

times-more : (s n : ℕ) (views : List View) (view : View) → times_done s n (views ++ view ∷ []) ≡ times_done s n views + times s n (working_of view.role).done
times-more s n [] view = omega arith
times-more s n (x ∷ xs) view = let later : times_done s n (xs ++ view ∷ []) ≡ times_done s n xs + times s n (working_of view.role).done = times-more s n xs view in omega arith

module _ (meaning : Meaning) (shape : Shape) (key : List ℕ) (board : Board) (state : State) (shows : Shows meaning shape key board state)
    (seat cut : ℕ) (sits : Sits board seat (opener shape key cut)) (left : cut < shape.senders + shape.workers) where
  opens-at : (seat ≡ 0) × (length board.views ≡ suc cut)
  opens-at = (shows.seated seat (opener shape key cut) sits).stands

  abbrev told : List View
  told = set board.views seat (opener shape key (suc cut))

  abbrev views_cut : List View
  views_cut = told ++ next_seat shape key cut ∷ []

  -- every seat but the first reads as before
  same_view : {A : Type 0} (read : Role → A) → read (next_seat shape key cut).role ≡ read nobody.role
      → (i : ℕ) → read (view_at views_cut (suc i)).role ≡ read (view_at board.views (suc i)).role
  same_view read new i =
      appended told (next_seat shape key cut) nobody (suc i) (λ view. read view.role ≡ read (view_at board.views (suc i)).role)
      (λ _. ap (λ (view : View). read view.role) (get_or-set_other board.views seat (suc i) (opener shape key (suc cut)) nobody (λ e. let at : seat ≡ 0 = opens-at.0 in omega arith)))
      (λ at. new ∙ ap (λ (view : View). read view.role) (sym (get_or_past board.views (suc i) nobody (omega (arith, length-set board.views seat (opener shape key (suc cut)))))))
      (λ past. ap (λ (view : View). read view.role) (sym (get_or_past board.views (suc i) nobody (omega (arith, length-set board.views seat (opener shape key (suc cut)))))))

  pub asking-cut : (s : ℕ) → asking_at views_cut s ≡ asking_at board.views s
  asking-cut s = same_view asking_of (next-new shape cut (ltb cut shape.senders) (next_seat shape key cut).role refl).0 s

  pub working-cut : (w : ℕ) → working_at shape views_cut w ≡ working_at shape board.views w
  working-cut w = same_view working_of (next-new shape cut (ltb cut shape.senders) (next_seat shape key cut).role refl).1 (shape.senders + w)

  size : length views_cut ≡ suc (suc cut)
  size = omega (arith, length-append told (next_seat shape key cut ∷ []), length-set board.views seat (opener shape key (suc cut)), opens-at.1)

  -- the other seats don't open
  still : (role : Role) (j : ℕ) → j ≢ seat → StandsAt shape (length board.views) j role → StandsAt shape (length views_cut) j role
  still role j ne stands = grind (arith, opens-at)

  cut-seated : (j : ℕ) (view : View) → get_elem? views_cut j ≡ some view → Seated shape key (length views_cut) j view
  cut-seated =
      added (Seated shape key (length views_cut)) told (next_seat shape key cut)
      (record {
        shape_is = refl;
        key_is = refl;
        stands = grind (arith, length-set, opens-at, next-stands);
      })
      (changed (Seated shape key (length views_cut)) board.views seat (opener shape key (suc cut))
      (record { shape_is = refl; key_is = refl; stands = (opens-at.0, size) })
      (λ j view ne at. let was = shows.seated j view at in record { shape_is = was.shape_is; key_is = was.key_is; stands = still view.role j ne was.stands }))

  -- nobody answered more
  pub times-cut : (s n : ℕ) → times_done s n views_cut ≡ times_done s n board.views
  times-cut s n =
      let more : times_done s n views_cut ≡ times_done s n told + times s n (working_of (next_seat shape key cut).role).done = times-more s n told (next_seat shape key cut) in
      let none : times s n (working_of (next_seat shape key cut).role).done ≡ 0 = ap (λ (working : Working). times s n working.done) (next-new shape cut (ltb cut shape.senders) (next_seat shape key cut).role refl).1 in
      let same : times_done s n told + 0 ≡ times_done s n board.views + 0 = times-set s n board.views seat (opener shape key cut) (opener shape key (suc cut)) sits in
      omega arith

  pub cuts : Shows meaning shape key (cut_off shape key seat cut board) state
  cuts = grind (arith, cut-seated, asking-cut, working-cut, times-cut)
