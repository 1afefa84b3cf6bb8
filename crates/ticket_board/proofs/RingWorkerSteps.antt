-- Each step of a worker keeps what the ring shows.
use Rattle.std.proofs.Common.{◌≡◌, ◌≢◌, ℕ, ◌+◌, ◌*◌, ◌<◌, ◌≤◌, Bool, eqb, if◌then◌else◌, List, [], ◌∷◌, ◌++◌, length, get_or, set, Option, Some, None, IsSome, inl, inr, refl, sym, ◌∙◌, ap, subst, eq-eqb, arith}
use Rattle.std.proofs.lemmas.Bool.{cases_eq, cases_lt, ne_eqb}
use Rattle.std.proofs.lemmas.List.{length-set}
use Rattle.std.proofs.lemmas.Nat.{div_below}
use Rattle.ticket_core.specs.declared.query.Query.{Query}
use Rattle.ticket_core.specs.declared.shape.Shape.{Shape}
use Rattle.ticket_core.specs.Query.{AreWords, of_words}
use Rattle.ticket_core.specs.State.{Shown, Meaning, Place, Unasked, Waiting, Held, Answered, Sender, Ticket, State, sender_at, hand_at, place_of, query_of}
use Rattle.ticket_core.specs.Events.{Event, Take, Finish, GiveBack, puts, with_sender, with_hand, ticket_in, meaning_of, puts_down, Can, after}
use Rattle.ticket_core.specs.Sound.{IsSound}
use Rattle.ticket_core.specs.Runs.{is_ticket, once_finished, finishes}
use Rattle.ticket_core.proofs.ReadLemmas.{inside}
use Rattle.ticket_core.proofs.StateLemmas.{sender_changed, hand_changed}
use Rattle.ticket_core.proofs.StepLemmas.{step-sound, ticket_parts}
use Rattle.ticket_core.proofs.CountLemmas.{step-counted}
use Rattle.ticket_core.proofs.CallerLemmas.{held-sender, held-asked}
use Rattle.ticket_core.proofs.QueryLemmas.{of_words-words, words-allowed}
use Rattle.ticket_board.specs.Ring.Layout.{cell_of, cells_in, state_field, word_of, state_place, state_at, first_at, second_at, asked_word, taken_word, answered_word}
use Rattle.ticket_board.specs.Ring.Homes.{Home, Out, Empty, Full, home_at}
use Rattle.ticket_board.specs.Ring.Views.{Nothing, FirstWord, Whole, Asking, Working, worker, next_asked, next_received, asking_at}
use Rattle.ticket_board.specs.Ring.Shows.{Board, CellShows, HasWords, IsKnown, SenderShows, WorkerShows, Sits, Shows, times}
use Rattle.ticket_board.specs.Ring.Steps.{LooksAt, ReadsFirst, ReadsSecond, Answers, GivesBack, working_after, worked}
use Rattle.ticket_board.specs.Ring.Laws.{ShowsAfter}
use Rattle.ticket_board.proofs.RingPlaces.{numbers-apart, senders-apart, state-else, first-stays, second-stays, word-here, home-else, home-here}
use Rattle.ticket_board.proofs.RingSenders.{carried, cell-moved, waits, put-there}
use Rattle.ticket_board.proofs.RingViews.{times-append}
use Rattle.ticket_board.proofs.RingFrames.{worker-frame, worker-seated, worker-shows}

-- what is seen is of a sender below the bound
seen-below : (found : Bool) (q m bound s n : ℕ) → q < bound
    → ◌≡◌ {A = Option Ticket} (if found then Some (q, m) else None) (Some (s, n)) → s < bound
seen-below found q m bound s n h e = grind arith

module _ (meaning : Meaning) (shape : Shape) (key : List ℕ) (board : Board) (state : State) (shows : Shows meaning shape key board state) where
  some_room : 0 < shape.window
  some_room = shows.fits.4

  abbrev asking : ℕ → Asking
  asking s = asking_at board.views s

  abbrev states : ℕ → ℕ → ℕ
  states = state_at shape board.words

  abbrev SenderNow : ℕ → Type 0
  SenderNow s = SenderShows shape (states s) (first_at shape board.words s) (second_at shape board.words s) (home_at shape board.homes s) (asking s) (sender_at state s)

  sender-there' : (s : ℕ) → s < shape.senders → s < length state.senders
  sender-there' s h = let e : state.shape.senders ≡ shape.senders = ap (λ x. x.senders) shows.shape_is in omega (arith, shows.sound.senders)

  -- ---- a number in a hand

  module _ (w s n : ℕ) (holds : hand_at state w ≡ Some (s, n)) where
    held-is : place_of (sender_at state s) n ≡ Held w
    held-is = shows.sound.held w s n holds

    held-of : s < shape.senders
    held-of = let h : s < state.shape.senders = held-sender meaning state shows.sound w s n holds in
        let e : state.shape.senders ≡ shape.senders = ap (λ x. x.senders) shows.shape_is in omega arith

    held-from : next_received (asking s) ≤ n
    held-from = grind (arith, cases_lt, held-of, held-is)

    held-below : n < next_asked (asking s)
    held-below =
        let same : length (sender_at state s).asked ≡ next_asked (asking s) = ap length (shows.senders s held-of).asked in
        let h : n < length (sender_at state s).asked = held-asked meaning state shows.sound w s n holds in omega arith

    held-window : n < next_received (asking s) + shape.window
    held-window = grind (arith, held-of, held-below)

    held-word : (states s n ≡ taken_word n) × (home_at shape board.homes s n ≡ Out)
    held-word = grind (arith, held-is, held-of, held-from, held-window)

    held-words : HasWords (query_of (sender_at state s) n) (first_at shape board.words s n) (second_at shape board.words s n)
    held-words = (shows.senders s held-of).words n held-from held-below

  -- ---- a number that isn't answered yet is at another place

  module _ (s n x : ℕ) (home : Home) (place : Place) (new : State) (there : s < shape.senders)
      (from : next_received (asking s) ≤ n) (below : n < next_received (asking s) + shape.window) (early : states s n < answered_word n)
      (asked : place_of (sender_at state s) n ≡ Unasked → ⊥) (cell : CellShows n (next_received (asking s)) (asking s).collecting place x home)
      (changed : sender_at new s ≡ puts n place (sender_at state s)) (others : (t : ℕ) → t ≢ s → sender_at new t ≡ sender_at state t) where
    abbrev words_put : List ℕ
    words_put = set board.words (state_place shape s n) x

    abbrev homes_put : List Home
    homes_put = set board.homes (cell_of shape s n) home

    put-sender : SenderShows shape (state_at shape words_put s) (first_at shape words_put s) (second_at shape words_put s) (home_at shape homes_put s) (asking s) (puts n place (sender_at state s))
    put-sender =
        let old : SenderNow s = shows.senders s there in
        carried shape (λ _. refl) (λ m. first-stays shape some_room board.words s n x s m) (λ m. second-stays shape some_room board.words s n x s m) (λ _. refl) refl refl
        (put-there shape (states s) (first_at shape board.words s) (second_at shape board.words s) (home_at shape board.homes s) (asking s) (sender_at state s) old
        (state_at shape words_put s) (home_at shape homes_put s) n place from below early
        (λ m m_from m_below ne. (
          state-else shape some_room board.words s n x state_field s m (omega arith)
              (numbers-apart shape some_room s (next_received (asking s)) n m from below m_from m_below ne),
          home-else shape some_room board.homes s n home s m
              (numbers-apart shape some_room s (next_received (asking s)) n m from below m_from m_below ne),
        ))
        (inside (sender_at state s).places n Unasked asked)
        (cell-moved n (next_received (asking s)) (asking s).collecting place place x (state_at shape words_put s n) home (home_at shape homes_put s n) refl
        (word-here shape some_room board.words s n x state_field (omega arith) there shows.words)
        (home-here shape some_room board.homes s n home there shows.homes) cell))

    pub put-senders : (t : ℕ) → t < shape.senders
        → SenderShows shape (state_at shape words_put t) (first_at shape words_put t) (second_at shape words_put t) (home_at shape homes_put t) (asking t) (sender_at new t)
    put-senders t h = elim (cases_eq t s) [
      | inl e ↦ subst (λ (y : ℕ). SenderShows shape (state_at shape words_put y) (first_at shape words_put y) (second_at shape words_put y) (home_at shape homes_put y) (asking y) (sender_at new y)) (sym e)
          (subst (λ (y : Sender). SenderShows shape (state_at shape words_put s) (first_at shape words_put s) (second_at shape words_put s) (home_at shape homes_put s) (asking s) y) (sym changed) put-sender)
      | inr ne ↦ carried shape
          (λ m. state-else shape some_room board.words s n x state_field t m (omega arith) (senders-apart shape some_room s n t m ne))
          (λ m. first-stays shape some_room board.words s n x t m) (λ m. second-stays shape some_room board.words s n x t m)
          (λ m. home-else shape some_room board.homes s n home t m (senders-apart shape some_room s n t m ne)) refl (others t ne) (shows.senders t h)
    ]

    -- what was asked stays asked
    pub put-queries : (t m : ℕ) → query_of (sender_at new t) m ≡ query_of (sender_at state t) m
    put-queries t m = grind (arith, cases_eq)

  -- ---- the steps

  module _ (seat w : ℕ) (working : Working) (sits : Sits board seat (worker shape key w working)) where
    mine : WorkerShows shape state w working
    mine = worker-shows meaning shape key board state shows seat w working sits

    there : w < shape.workers
    there = (worker-seated meaning shape key board state shows seat w working sits).stands.1

    hand-there : w < length state.hands
    hand-there = let e : state.shape.workers ≡ shape.workers = ap (λ x. x.workers) shows.shape_is in omega (arith, there, shows.sound.workers)

    -- a step that leaves the state of the core, and what was done
    note : (working' : Working) → WorkerShows shape state w working' → working'.done ≡ working.done
        → Shows meaning shape key (record { words = board.words; homes = board.homes; views = set board.views seat (worker shape key w working') }) state
    note working' new done =
        worker-frame meaning shape key board state shows seat w working sits board.words board.homes working' state
        shows.shape_is shows.key_is shows.sound shows.words shows.homes shows.senders new (λ _ _. refl) (λ _ _. refl)
        (λ t n. ap (λ tickets. times t n tickets + once_finished (place_of (sender_at state t) n)) done)

    pub looks-at : (cell : ℕ) → working.hand ≡ None → cell < cells_in shape
        → Shows meaning shape key (worked shape key seat w working (LooksAt cell) board) state
    looks-at cell empty within =
        note (working_after shape working (LooksAt cell) (get_or board.words (word_of cell state_field) 0)) (record {
          hand = mine.hand;
          read = mine.read;
          seen = λ s n e. grind (arith, seen-below, div_below, some_room);
        }) refl

    pub reads-first : (s n : ℕ) → working.hand ≡ Some (s, n)
        → Shows meaning shape key (worked shape key seat w working (ReadsFirst s n) board) state
    reads-first s n holds =
        note (working_after shape working (ReadsFirst s n) (first_at shape board.words s n)) (record {
          hand = mine.hand;
          read = λ t m held. grind (arith, ticket_parts, held-words, mine);
          seen = mine.seen;
        }) refl

    -- ---- both words are read

    module _ (s n first : ℕ) (holds : working.hand ≡ Some (s, n)) (read : working.read ≡ FirstWord first) where
      words-read : HasWords (query_of (sender_at state s) n) first (second_at shape board.words s n)
      words-read =
          let held : HasWords (query_of (sender_at state s) n) (first_at shape board.words s n) (second_at shape board.words s n) =
          held-words w s n (mine.hand ∙ holds) in (
            subst (λ known. IsKnown known (query_of (sender_at state s) n)) read (mine.read s n holds),
            held.1,
            held.2,
          )

      -- they are those of the query that was asked
      query-read : of_words first (second_at shape board.words s n) ≡ query_of (sender_at state s) n
      query-read = (λ i. of_words (words-read.0 i) (words-read.1 i)) ∙ of_words-words (query_of (sender_at state s) n) words-read.2

      pub are-words : AreWords first (second_at shape board.words s n)
      are-words = grind (arith, words-read, words-allowed)

      pub reads-second : Shows meaning shape key (worked shape key seat w working (ReadsSecond s n first) board) state
      reads-second =
          note (working_after shape working (ReadsSecond s n first) (second_at shape board.words s n)) (record {
            hand = mine.hand;
            read = λ t m held. grind (arith, ticket_parts, query-read);
            seen = mine.seen;
          }) refl

    -- ---- a number goes into the hand, or out of it: a step that is an event of this worker

    happens : (event : Event) (s n x : ℕ) (home : Home) (place : Place) (hand seen : Option Ticket) (done returned : List Ticket) → Can event state
        → with_hand w hand (with_sender s (puts n place (sender_at state s)) state) ≡ after meaning event state
        → s < shape.senders → next_received (asking s) ≤ n → n < next_received (asking s) + shape.window → states s n < answered_word n
        → (place_of (sender_at state s) n ≡ Unasked → ⊥) → CellShows n (next_received (asking s)) (asking s).collecting place x home
        → ((t m : ℕ) → seen ≡ Some (t, m) → t < shape.senders)
        → ((t m : ℕ) → times t m done ≡ times t m working.done + (if finishes event state t m then 1 else 0))
        → ShowsAfter meaning shape key (Some event) state (record {
          words = set board.words (state_place shape s n) x;
          homes = set board.homes (cell_of shape s n) home;
          views = set board.views seat (worker shape key w (record working { hand = hand; read = Nothing; seen = seen; done = done; returned = returned }));
        })
    happens event s n x home place hand seen done returned can is of from below early was cell saw more =
        let with_place : State = with_sender s (puts n place (sender_at state s)) state in
        let new : State = with_hand w hand with_place in
        let changed : sender_at new s ≡ puts n place (sender_at state s) =
        sender_changed state s (puts n place (sender_at state s)) s (λ y. y ≡ puts n place (sender_at state s)) (sender-there' s of) (λ _. refl) (λ ne. absurd (ne refl)) in
        let others : (t : ℕ) → t ≢ s → sender_at new t ≡ sender_at state t =
        λ t ne. sender_changed state s (puts n place (sender_at state s)) t (λ y. y ≡ sender_at state t) (sender-there' s of) (λ e. absurd (ne e)) (λ _. refl) in (
          new,
          (can, is),
          worker-frame meaning shape key board state shows seat w working sits
              (set board.words (state_place shape s n) x) (set board.homes (cell_of shape s n) home)
              (record working { hand = hand; read = Nothing; seen = seen; done = done; returned = returned }) new
              shows.shape_is shows.key_is (subst (IsSound meaning) (sym is) (step-sound meaning event state shows.sound can))
              (length-set board.words (state_place shape s n) x ∙ shows.words) (length-set board.homes (cell_of shape s n) home ∙ shows.homes)
              (put-senders s n x home place new of from below early was cell changed others)
              (record {
                hand = hand_changed with_place w hand w (λ y. y ≡ hand) hand-there (λ _. refl) (λ ne. absurd (ne refl));
                read = λ t m held. tt;
                seen = saw;
              })
              (λ v ne. hand_changed with_place w hand v (λ y. y ≡ hand_at state v) hand-there (λ e. absurd (ne e)) (λ _. refl))
              (put-queries s n x home place new of from below early was cell changed others)
              (λ t m.
              let c : (if finishes event state t m then 1 else 0) + once_finished (place_of (sender_at state t) m) ≡ once_finished (place_of (sender_at new t) m) =
              subst (λ (y : State). (if finishes event state t m then 1 else 0) + once_finished (place_of (sender_at state t) m) ≡ once_finished (place_of (sender_at y t) m)) (sym is)
              (step-counted meaning event state t m shows.sound can) in
              omega (arith, more t m)),
        )

    -- ---- a number is taken

    module _ (s n : ℕ) (empty : working.hand ≡ None) (saw : working.seen ≡ Some (s, n)) where
      of-sender : s < shape.senders
      of-sender = mine.seen s n saw

      module _ (found : states s n ≡ asked_word n) where
        stands : (next_received (asking s) ≤ n) × (n < next_received (asking s) + shape.window) × (place_of (sender_at state s) n ≡ Waiting)
        stands =
            waits shape (states s) (first_at shape board.words s) (second_at shape board.words s) (home_at shape board.homes s) (asking s) (sender_at state s)
            (shows.senders s of-sender) n some_room
            (λ m e. ap (λ (k : ℕ). get_or board.words (word_of (s * shape.window + k) state_field) 0) e) found

        can-take : Can (Take w s n) state
        can-take = grind (arith, there, mine, stands)

        -- its slot is empty
        pub slot-waits : home_at shape board.homes s n ≡ Empty
        slot-waits = grind (arith, stands, of-sender)

        pub hits : ShowsAfter meaning shape key (Some (Take w s n)) state (record {
          words = set board.words (state_place shape s n) (taken_word n);
          homes = set board.homes (cell_of shape s n) Out;
          views = set board.views seat (worker shape key w (record working { hand = Some (s, n); read = Nothing; seen = None }));
        })
        hits =
            happens (Take w s n) s n (taken_word n) Out (Held w) (Some (s, n)) None working.done working.returned can-take refl of-sender stands.0 stands.1 (omega (arith, found))
            (λ e. let waiting : place_of (sender_at state s) n ≡ Waiting = stands.2 in cc) (refl, refl) (λ t m is. absurd (cc)) (λ t m. omega arith)

      pub misses : Shows meaning shape key (record {
        words = board.words;
        homes = board.homes;
        views = set board.views seat (worker shape key w (record working { hand = None; read = Nothing; seen = None; missed = working.missed ++ cell_of shape s n ∷ [] }));
      }) state
      misses = note (record working { hand = None; read = Nothing; seen = None; missed = working.missed ++ cell_of shape s n ∷ [] })
          (record { hand = mine.hand ∙ empty; read = λ t m held. tt; seen = λ t m is. absurd (cc) }) refl

      abbrev After : Bool → Type 0
      After hit = ShowsAfter meaning shape key (if hit then Some (Take w s n) else None) state (record {
        words = if hit then set board.words (state_place shape s n) (taken_word n) else board.words;
        homes = if hit then set board.homes (cell_of shape s n) Out else board.homes;
        views = set board.views seat (worker shape key w (record working {
          hand = if hit then Some (s, n) else None;
          read = Nothing;
          seen = None;
          missed = if hit then working.missed else working.missed ++ cell_of shape s n ∷ [];
        }));
      })

      pub takes : After (eqb (states s n) (asked_word n))
      takes = elim (cases_eq (states s n) (asked_word n)) [
        | inl e ↦ subst After (sym (eq-eqb (states s n) (asked_word n) e)) (hits e)
        | inr ne ↦ subst After (sym (ne_eqb (states s n) (asked_word n) ne)) (state, refl, misses)
      ]

    -- ---- a number is put down

    module _ (s n : ℕ) (holds : working.hand ≡ Some (s, n)) where
      holds-now : hand_at state w ≡ Some (s, n)
      holds-now = mine.hand ∙ holds

      some-hand : IsSome (hand_at state w)
      some-hand = subst (λ (hand : Option Ticket). IsSome hand) (sym holds-now) refl

      puts-down : (event : Event) (x : ℕ) (home : Home) (place : Place) (done returned : List Ticket) → Can event state
          → after meaning event state ≡ puts_down w (s, n) place state → CellShows n (next_received (asking s)) (asking s).collecting place x home
          → ((t m : ℕ) → times t m done ≡ times t m working.done + (if finishes event state t m then 1 else 0))
          → ShowsAfter meaning shape key (Some event) state (record {
            words = set board.words (state_place shape s n) x;
            homes = set board.homes (cell_of shape s n) home;
            views = set board.views seat (worker shape key w (record working { hand = None; read = Nothing; done = done; returned = returned }));
          })
      puts-down event x home place done returned can is cell more =
          let word : states s n ≡ taken_word n = (held-word w s n holds-now).0 in
          happens event s n x home place None working.seen done returned can (sym is) (held-of w s n holds-now) (held-from w s n holds-now) (held-window w s n holds-now) (omega arith)
          (λ e. let held : place_of (sender_at state s) n ≡ Held w = held-is w s n holds-now in cc) cell mine.seen more

      pub gives-back : ShowsAfter meaning shape key (Some (GiveBack w)) state (worked shape key seat w working (GivesBack s n) board)
      gives-back =
          puts-down (GiveBack w) (asked_word n) Empty Waiting working.done (working.returned ++ (s, n) ∷ []) some-hand
          (ap (λ (hand : Option Ticket). puts_down w (ticket_in hand) Waiting state) holds-now) (refl, refl) (λ t m. omega arith)

      pub answers : (query : Query) (answer : Shown) → working.read ≡ Whole query → answer ≡ meaning key query
          → ShowsAfter meaning shape key (Some (Finish w)) state (worked shape key seat w working (Answers s n query answer) board)
      answers query answer read right =
          let asked : query ≡ query_of (sender_at state s) n = subst (λ known. IsKnown known (query_of (sender_at state s) n)) read (mine.read s n holds) in
          let means : answer ≡ meaning_of meaning state (s, n) = right ∙ (λ i. meaning (sym shows.key_is i) (asked i)) in
          puts-down (Finish w) (answered_word n) (Full answer) (Answered (meaning_of meaning state (s, n))) (working.done ++ (s, n) ∷ []) working.returned some-hand
          (ap (λ (hand : Option Ticket). puts_down w (ticket_in hand) (Answered (meaning_of meaning state (ticket_in hand))) state) holds-now)
          (inl (refl, ap Full means))
          (λ t m. subst (λ (hand : Option Ticket). times t m (working.done ++ (s, n) ∷ []) ≡ times t m working.done + (if is_ticket hand t m then 1 else 0)) (sym holds-now)
          (times-append t m working.done (s, n)))
