-- Each step of a sender keeps what the ring shows.
use Rattle.std.proofs.Common.{◌≡◌, ◌≢◌, ℕ, ◌+◌, ◌*◌, ◌<◌, ◌≤◌, true, false, eqb, if◌then◌else◌, List, [], ◌∷◌, ◌++◌, length, get_or, set, Some, None, refl, sym, ◌∙◌, ap, subst, arith}
use Rattle.std.proofs.lemmas.Bool.{cases_eq, ne_eqb}
use Rattle.std.proofs.lemmas.List.{length-set, length-append, get_or_append_left, get_or_past, get_or-set_other}
use Rattle.ticket_core.specs.declared.query.Query.{Query}
use Rattle.ticket_core.specs.declared.query.QueryKind.TheVariants.{Address}
use Rattle.ticket_core.specs.declared.shape.Shape.{Shape}
use Rattle.ticket_core.specs.Query.{IsQuery, first_word, second_word}
use Rattle.ticket_core.specs.State.{Shown, Meaning, Unasked, Waiting, Answered, Collected, Sender, State, sender_at, place_of, query_of, next_of}
use Rattle.ticket_core.specs.Events.{Event, Ask, Collect, asks, collects, IsAnswered, with_sender, Can, after}
use Rattle.ticket_core.specs.Sound.{IsSound}
use Rattle.ticket_core.specs.Runs.{finishes, once_finished}
use Rattle.ticket_core.proofs.ReadLemmas.{appended, inside}
use Rattle.ticket_core.proofs.StateLemmas.{sender_changed}
use Rattle.ticket_core.proofs.StepLemmas.{step-sound}
use Rattle.ticket_core.proofs.CountLemmas.{step-counted}
use Rattle.ticket_board.specs.Ring.Layout.{cell_of, cells_in, words_in, word_of, state_field, first_field, second_field, state_place, state_at, first_at, second_at, free_word, asked_word, answered_word, collecting_word}
use Rattle.ticket_board.specs.Ring.Homes.{Home, Out, Empty, Full, home_at, answer_at_home}
use Rattle.ticket_board.specs.Ring.Views.{Known, Nothing, FirstWord, Whole, Asking, asker, next_asked, next_received, HasRoom}
use Rattle.ticket_board.specs.Ring.Shows.{Board, HasWords, IsAhead, SenderShows, Sits, Shows}
use Rattle.ticket_board.specs.Ring.Steps.{WritesFirst, WritesSecond, Publishes, LooksNext, BringsOut, Receives, asking_after, sent}
use Rattle.ticket_board.specs.Ring.Laws.{ShowsAfter}
use Rattle.ticket_board.proofs.RingPlaces.{numbers-apart, senders-apart, word-else, state-else, first-stays, second-stays, word-here, home-else, home-here, around}
use Rattle.ticket_board.proofs.RingSenders.{words-moved, ahead-moved, cell-moved, cell-kept, answered-cell, collecting-cell}
use Rattle.ticket_board.proofs.RingFrames.{asker-frame, asker-seated, sender-shows}

module _ (meaning : Meaning) (shape : Shape) (key : List ℕ) (board : Board) (state : State) (seat s : ℕ) (asking : Asking)
    (shows : Shows meaning shape key board state) (sits : Sits board seat (asker shape key s asking)) where
  abbrev states : ℕ → ℕ
  states = state_at shape board.words s

  abbrev firsts : ℕ → ℕ
  firsts = first_at shape board.words s

  abbrev seconds : ℕ → ℕ
  seconds = second_at shape board.words s

  abbrev homes : ℕ → Home
  homes = home_at shape board.homes s

  mine : SenderShows shape states firsts seconds homes asking (sender_at state s)
  mine = sender-shows meaning shape key board state shows seat s asking sits

  there : s < shape.senders
  there = (asker-seated meaning shape key board state shows seat s asking sits).stands.1

  -- a step that leaves the state of the core
  note : (words : List ℕ) (asking' : Asking) → length words ≡ words_in shape
      → SenderShows shape (state_at shape words s) (first_at shape words s) (second_at shape words s) homes asking' (sender_at state s)
      → ((t n : ℕ) → t ≢ s → (state_at shape words t n ≡ state_at shape board.words t n) × (first_at shape words t n ≡ first_at shape board.words t n)
      × (second_at shape words t n ≡ second_at shape board.words t n))
      → Shows meaning shape key (record { words = words; homes = board.homes; views = set board.views seat (asker shape key s asking') }) state
  note words asking' in_words new others =
      asker-frame meaning shape key board state shows seat s asking sits words board.homes asking' state
      shows.shape_is shows.key_is shows.sound in_words shows.homes new
      (λ t n ne. ((others t n ne).0, (others t n ne).1, (others t n ne).2, refl)) (λ _ _. refl) (λ _. refl) (λ _ _. refl) (λ _ _. refl)

  some_room : 0 < shape.window
  some_room = shows.fits.4

  received-is : length (sender_at state s).received ≡ next_received asking
  received-is = ap length mine.received

  asked-is : length (sender_at state s).asked ≡ next_asked asking
  asked-is = ap length mine.asked

  placed : length (sender_at state s).places ≡ next_asked asking
  placed = (shows.sound.each s).placed ∙ asked-is

  ordered : next_received asking ≤ next_asked asking
  ordered = omega (arith, (shows.sound.each s).within, received-is, asked-is)

  limited : next_asked asking ≤ next_received asking + shape.window
  limited = let e : state.shape.window ≡ shape.window = ap (λ x. x.window) shows.shape_is in omega (arith, shows.sound.window s, received-is, asked-is)

  unasked : (n : ℕ) → next_asked asking ≤ n → place_of (sender_at state s) n ≡ Unasked
  unasked n h = get_or_past (sender_at state s).places n Unasked (omega (arith, placed))

  sender-there : s < length state.senders
  sender-there = let e : state.shape.senders ≡ shape.senders = ap (λ x. x.senders) shows.shape_is in omega (arith, there, shows.sound.senders)

  -- a step that is an event of this sender
  happens : (event : Event) (sender : Sender) (words : List ℕ) (homes' : List Home) (asking' : Asking) → Can event state
      → with_sender s sender state ≡ after meaning event state → ((t n : ℕ) → ◌≡◌ {A = ℕ} (if finishes event state t n then 1 else 0) 0)
      → length words ≡ words_in shape → length homes' ≡ cells_in shape
      → SenderShows shape (state_at shape words s) (first_at shape words s) (second_at shape words s) (home_at shape homes' s) asking' sender
      → ((n : ℕ) → n < length (sender_at state s).asked → query_of sender n ≡ query_of (sender_at state s) n)
      → ((t n : ℕ) → t ≢ s → (state_at shape words t n ≡ state_at shape board.words t n) × (first_at shape words t n ≡ first_at shape board.words t n)
      × (second_at shape words t n ≡ second_at shape board.words t n) × (home_at shape homes' t n ≡ home_at shape board.homes t n))
      → ShowsAfter meaning shape key (Some event) state (record { words = words; homes = homes'; views = set board.views seat (asker shape key s asking') })
  happens event sender words homes' asking' can is none in_words in_homes new queries others =
      let here : sender_at (with_sender s sender state) s ≡ sender = sender_changed state s sender s (λ x. x ≡ sender) sender-there (λ _. refl) (λ ne. absurd (ne refl)) in (
        with_sender s sender state,
        (can, is),
        asker-frame meaning shape key board state shows seat s asking sits words homes' asking' (with_sender s sender state)
            shows.shape_is shows.key_is (subst (IsSound meaning) (sym is) (step-sound meaning event state shows.sound can)) in_words in_homes
            (subst (λ (x : Sender). SenderShows shape (state_at shape words s) (first_at shape words s) (second_at shape words s) (home_at shape homes' s) asking' x) (sym here) new)
            others
            (λ t ne. sender_changed state s sender t (λ x. x ≡ sender_at state t) sender-there (λ e. absurd (ne e)) (λ _. refl))
            (λ _. refl)
            (λ n h. ap (λ x. query_of x n) here ∙ queries n h)
            (λ t n. let c : (if finishes event state t n then 1 else 0) + once_finished (place_of (sender_at state t) n) ≡ once_finished (place_of (sender_at (with_sender s sender state) t) n) =
            subst (λ (x : State). (if finishes event state t n then 1 else 0) + once_finished (place_of (sender_at state t) n) ≡ once_finished (place_of (sender_at x t) n)) (sym is)
            (step-counted meaning event state t n shows.sound can) in omega (arith, none t n)),
      )

  -- ---- a word of one of its cells is written

  module _ (m field x : ℕ) (some : field < 3) where
    abbrev wrote : List ℕ
    wrote = set board.words (word_of (cell_of shape s m) field) x

    wrote-size : length wrote ≡ words_in shape
    wrote-size = length-set board.words (word_of (cell_of shape s m) field) x ∙ shows.words

    -- another word, and each word of another cell
    beside : (other t n : ℕ) → other < 3 → (cell_of shape t n ≡ cell_of shape s m → other ≡ field → ⊥)
        → get_or wrote (word_of (cell_of shape t n) other) 0 ≡ get_or board.words (word_of (cell_of shape t n) other) 0
    beside other t n h apart = word-else shape some_room board.words s m x field other t n some h apart

    elsewhere : (t n : ℕ) → cell_of shape t n ≢ cell_of shape s m
        → (state_at shape wrote t n ≡ state_at shape board.words t n) × (first_at shape wrote t n ≡ first_at shape board.words t n)
        × (second_at shape wrote t n ≡ second_at shape board.words t n)
    elsewhere t n ne = grind (arith, beside)

    here : get_or wrote (word_of (cell_of shape s m) field) 0 ≡ x
    here = word-here shape some_room board.words s m x field some there shows.words

  -- ---- a word of a query is written ahead

  module _ (field x : ℕ) (some : 0 < field) (few : field < 3) (room : HasRoom shape asking) where
    abbrev words_ahead : List ℕ
    words_ahead = wrote (next_asked asking) field x few

    still : (n : ℕ) → state_at shape words_ahead s n ≡ states n
    still n = beside (next_asked asking) field x few state_field s n (omega arith) (λ _ e. omega arith)

    writes-ahead : (ahead : Known) → IsAhead ahead (first_at shape words_ahead s (next_asked asking)) (second_at shape words_ahead s (next_asked asking))
        → Shows meaning shape key
        (record { words = words_ahead; homes = board.homes; views = set board.views seat (asker shape key s (record asking { ahead = ahead })) }) state
    writes-ahead ahead is =
        note words_ahead (record asking { ahead = ahead }) (wrote-size (next_asked asking) field x few)
        (record {
          asked = mine.asked;
          received = mine.received;
          stays_open = mine.stays_open;
          cells = λ n from below. grind (arith, cell-moved, still, mine);
          words = λ n from below.
              let apart : cell_of shape s n ≢ cell_of shape s (next_asked asking) =
              numbers-apart shape some_room s (next_received asking) (next_asked asking) n ordered room.0 from (omega (arith, room.0)) (λ e. omega arith) in
              let e = elsewhere (next_asked asking) field x few s n apart in
              words-moved (query_of (sender_at state s) n) (query_of (sender_at state s) n) _ _ _ _ refl e.1 e.2 (mine.words n from below);
          ahead = is;
          room = λ _. room;
          found = λ f. still (next_received asking) ∙ mine.found f;
          collecting = λ answer e. still (next_received asking) ∙ mine.collecting answer e;
        })
        (λ t n ne. elsewhere (next_asked asking) field x few t n (senders-apart shape some_room s (next_asked asking) t n ne))

  pub writes-first : (word : ℕ) → HasRoom shape asking
      → Shows meaning shape key (sent shape key seat s asking (WritesFirst word) board) state
  writes-first word room =
      writes-ahead first_field word (omega arith) (omega arith) room (FirstWord word) (here (next_asked asking) first_field word (omega arith))

  pub writes-second : (query : Query) → asking.ahead ≡ FirstWord (first_word query) → IsQuery query
      → Shows meaning shape key (sent shape key seat s asking (WritesSecond query) board) state
  writes-second query written is =
      let first : firsts (next_asked asking) ≡ first_word query =
      subst (λ known. IsAhead known (firsts (next_asked asking)) (seconds (next_asked asking))) written mine.ahead in
      writes-ahead second_field (second_word query) (omega arith) (omega arith) (mine.room (λ e. cc)) (Whole query) (
        beside (next_asked asking) second_field (second_word query) (omega arith) first_field s (next_asked asking) (omega arith) (λ _ e. omega arith) ∙ first,
        here (next_asked asking) second_field (second_word query) (omega arith),
        is,
      )

  -- ---- the state word of a number is written: the words of queries stay

  module _ (m x : ℕ) where
    abbrev marked : List ℕ
    marked = set board.words (state_place shape s m) x

    words-stay : (query : Query) (n : ℕ) → HasWords query (firsts n) (seconds n) → HasWords query (first_at shape marked s n) (second_at shape marked s n)
    words-stay query n old = grind (arith, words-moved, first-stays, some_room, second-stays)

    ahead-stays : (n : ℕ) → IsAhead asking.ahead (firsts n) (seconds n) → IsAhead asking.ahead (first_at shape marked s n) (second_at shape marked s n)
    ahead-stays n old = grind (arith, ahead-moved, first-stays, some_room, second-stays)

    -- with the slot of its cell
    of-others : (home : Home) (t n : ℕ) → t ≢ s
        → (state_at shape marked t n ≡ state_at shape board.words t n) × (first_at shape marked t n ≡ first_at shape board.words t n)
        × (second_at shape marked t n ≡ second_at shape board.words t n) × (home_at shape (set board.homes (cell_of shape s m) home) t n ≡ home_at shape board.homes t n)
    of-others home t n ne =
        let apart : cell_of shape t n ≢ cell_of shape s m = senders-apart shape some_room s m t n ne in
        let e = elsewhere m state_field x (omega arith) t n apart in (e.0, e.1, e.2, home-else shape some_room board.homes s m home t n apart)

  -- the cells of two numbers of the window
  apart-next : (n : ℕ) → next_received asking ≤ n → n < next_received asking + shape.window → n ≢ next_received asking
      → cell_of shape s n ≢ cell_of shape s (next_received asking)
  apart-next n from below ne = numbers-apart shape some_room s (next_received asking) (next_received asking) n (omega arith) (omega (arith, some_room)) from below ne

  -- ---- a number is asked

  module _ (query : Query) (written : asking.ahead ≡ Whole query) where
    room : HasRoom shape asking
    room = mine.room (λ e. cc)

    words-ahead : HasWords query (firsts (next_asked asking)) (seconds (next_asked asking))
    words-ahead = subst (λ known. IsAhead known (firsts (next_asked asking)) (seconds (next_asked asking))) written mine.ahead

    abbrev words_asked : List ℕ
    words_asked = set board.words (state_place shape s (next_asked asking)) (asked_word (next_asked asking))

    can-ask : Can (Ask s query) state
    can-ask = grind (arith, there, mine, asked-is, room, received-is, ordered)

    place-asked : (n : ℕ) → n ≢ next_asked asking → place_of (asks query (sender_at state s)) n ≡ place_of (sender_at state s) n
    place-asked n ne = appended (sender_at state s).places Waiting Unasked n (λ p. p ≡ place_of (sender_at state s) n) (λ _. refl)
        (λ at. absurd (ne (omega (arith, placed)))) (λ past. sym (unasked n (omega (arith, placed))))

    waits-now : place_of (asks query (sender_at state s)) (next_asked asking) ≡ Waiting
    waits-now = appended (sender_at state s).places Waiting Unasked (next_asked asking) (λ p. p ≡ Waiting) (λ h. absurd (omega (arith, placed))) (λ _. refl)
        (λ h. absurd (omega (arith, placed)))

    was-free : (states (next_asked asking) ≡ free_word (next_asked asking)) × (homes (next_asked asking) ≡ Empty)
    was-free = grind (arith, unasked, mine, ordered, room)

    state-asked : (n : ℕ) → next_received asking ≤ n → n < next_received asking + shape.window → n ≢ next_asked asking
        → state_at shape words_asked s n ≡ states n
    state-asked n from below ne = grind (arith, state-else, some_room, numbers-apart, ordered, room)

    -- an answered number is asked already
    still-asked : (x : ℕ) → free_word (next_received asking) < x → states (next_received asking) ≡ x → state_at shape words_asked s (next_received asking) ≡ x
    still-asked x more was = grind (arith, cases_eq, was-free, state-asked, some_room)

    -- what is asked is in the words of its number
    words-asked : (n : ℕ) → next_received asking ≤ n → n < length (asking.asked ++ query ∷ [])
        → HasWords (query_of (asks query (sender_at state s)) n) (first_at shape words_asked s n) (second_at shape words_asked s n)
    words-asked n from below = appended (sender_at state s).asked query (Address 0) n
        (λ x. HasWords x (first_at shape words_asked s n) (second_at shape words_asked s n))
        (λ h. words-stay (next_asked asking) (asked_word (next_asked asking)) (query_of (sender_at state s) n) n (mine.words n from (omega (arith, asked-is))))
        (λ e. let q : next_asked asking ≡ n = omega (arith, asked-is) in
        words-stay (next_asked asking) (asked_word (next_asked asking)) query n (subst (λ (x : ℕ). HasWords query (firsts x) (seconds x)) q words-ahead))
        (λ h. absurd (omega (arith, asked-is, length-append asking.asked (query ∷ []))))

    shows-asked : SenderShows shape (state_at shape words_asked s) (first_at shape words_asked s) (second_at shape words_asked s) homes
        (record asking { asked = asking.asked ++ query ∷ []; ahead = Nothing }) (asks query (sender_at state s))
    shows-asked = record {
      asked = ap (λ xs. xs ++ query ∷ []) mine.asked;
      received = mine.received;
      stays_open = mine.stays_open;
      cells = λ n from below. grind (
        arith,
        cases_eq,
        cell-moved,
        waits-now,
        word-here,
        some_room,
        there,
        was-free,
        place-asked,
        state-asked,
        mine,
      );
      words = words-asked;
      ahead = tt;
      room = λ some. absurd (some refl);
      found = λ f. still-asked (answered_word (next_received asking)) (omega arith) (mine.found f);
      collecting = λ answer f. still-asked (collecting_word (next_received asking)) (omega arith) (mine.collecting answer f);
    }

    pub publishes : ShowsAfter meaning shape key (Some (Ask s query)) state (sent shape key seat s asking (Publishes query) board)
    publishes =
        happens (Ask s query) (asks query (sender_at state s)) words_asked board.homes (record asking { asked = asking.asked ++ query ∷ []; ahead = Nothing })
        can-ask refl (λ _ _. refl) (wrote-size (next_asked asking) state_field (asked_word (next_asked asking)) (omega arith)) shows.homes shows-asked
        (λ n h. get_or_append_left (sender_at state s).asked (query ∷ []) (Address 0) n h)
        (λ t n ne. let e = of-others (next_asked asking) (asked_word (next_asked asking)) Empty t n ne in (e.0, e.1, e.2, refl))

  -- ---- it looks for the next answer

  equal : (a b : ℕ) → eqb a b ≡ true → a ≡ b
  equal a b e = grind (arith, cases_eq, ne_eqb)

  pub looks-next : Shows meaning shape key (sent shape key seat s asking LooksNext board) state
  looks-next =
      note board.words (asking_after asking LooksNext (states (next_received asking)) (homes (next_received asking))) shows.words
      (record {
        asked = mine.asked;
        received = mine.received;
        stays_open = mine.stays_open;
        cells = mine.cells;
        words = mine.words;
        ahead = mine.ahead;
        room = mine.room;
        found = equal (states (next_received asking)) (answered_word (next_received asking));
        collecting = mine.collecting;
      })
      (λ _ _ _. (refl, refl, refl))

  -- ---- an answer is on its way out

  module _ (noted : asking.found ≡ true) where
    abbrev words_out : List ℕ
    words_out = set board.words (state_place shape s (next_received asking)) (collecting_word (next_received asking))

    abbrev homes_out : List Home
    homes_out = set board.homes (cell_of shape s (next_received asking)) Out

    abbrev asking_out : Asking
    asking_out = record asking { found = false; collecting = Some (answer_at_home (homes (next_received asking))) }

    pub has-answer : (homes (next_received asking) ≡ Full (answer_at_home (homes (next_received asking))))
        × (place_of (sender_at state s) (next_received asking) ≡ Answered (answer_at_home (homes (next_received asking))))
    has-answer = grind (arith, answered-cell, mine, some_room)

    -- it is that of the number that the sender receives next, which it asked
    pub right-answer : (next_received asking < next_asked asking)
        × (answer_at_home (homes (next_received asking)) ≡ meaning key (get_or asking.asked (next_received asking) (Address 0)))
    right-answer = grind (arith, has-answer, inside, placed, mine)

    state-out : state_at shape words_out s (next_received asking) ≡ collecting_word (next_received asking)
    state-out = word-here shape some_room board.words s (next_received asking) (collecting_word (next_received asking)) state_field (omega arith) there shows.words

    shows-out : SenderShows shape (state_at shape words_out s) (first_at shape words_out s) (second_at shape words_out s) (home_at shape homes_out s) asking_out (sender_at state s)
    shows-out = record {
      asked = mine.asked;
      received = mine.received;
      stays_open = mine.stays_open;
      cells = λ n from below. grind (
        arith,
        cases_eq,
        cell-moved,
        has-answer,
        state-out,
        home-here,
        some_room,
        there,
        state-else,
        apart-next,
        home-else,
        cell-kept,
        mine,
      );
      words = λ n from below. words-stay (next_received asking) (collecting_word (next_received asking)) (query_of (sender_at state s) n) n (mine.words n from below);
      ahead = ahead-stays (next_received asking) (collecting_word (next_received asking)) (next_asked asking) mine.ahead;
      room = mine.room;
      found = λ f. absurd (cc);
      collecting = λ answer e. state-out;
    }

    pub brings-out : Shows meaning shape key (sent shape key seat s asking BringsOut board) state
    brings-out =
        asker-frame meaning shape key board state shows seat s asking sits words_out homes_out asking_out state
        shows.shape_is shows.key_is shows.sound
        (wrote-size (next_received asking) state_field (collecting_word (next_received asking)) (omega arith))
        (length-set board.homes (cell_of shape s (next_received asking)) Out ∙ shows.homes) shows-out
        (of-others (next_received asking) (collecting_word (next_received asking)) Out) (λ _ _. refl) (λ _. refl) (λ _ _. refl) (λ _ _. refl)

  -- ---- an answer is received

  module _ (answer : Shown) (out : asking.collecting ≡ Some answer) where
    abbrev words_received : List ℕ
    words_received = set board.words (state_place shape s (next_received asking)) (free_word (next_received asking + shape.window))

    abbrev homes_received : List Home
    homes_received = set board.homes (cell_of shape s (next_received asking)) Empty

    abbrev asking_received : Asking
    asking_received = record asking { received = asking.received ++ answer ∷ []; collecting = None }

    longer : length (asking.received ++ answer ∷ []) ≡ next_received asking + 1
    longer = length-append asking.received (answer ∷ [])

    was-answered : place_of (sender_at state s) (next_received asking) ≡ Answered answer
    was-answered = grind (arith, collecting-cell, mine, some_room)

    next-answered-is : place_of (sender_at state s) (next_of (sender_at state s)) ≡ Answered answer
    next-answered-is = ap (place_of (sender_at state s)) received-is ∙ was-answered

    can-collect : Can (Collect s) state
    can-collect = subst IsAnswered (sym next-answered-is) tt

    place-received : (n : ℕ) → n ≢ next_received asking → place_of (collects (sender_at state s)) n ≡ place_of (sender_at state s) n
    place-received n ne = get_or-set_other (sender_at state s).places (next_of (sender_at state s)) n Collected Unasked (λ e. ne (e ∙ received-is))

    -- the cell of the received number stands for the one a window later
    later-cell : cell_of shape s (next_received asking + shape.window) ≡ cell_of shape s (next_received asking)
    later-cell = ap (λ (k : ℕ). s * shape.window + k) (around shape some_room (next_received asking))

    state-received : state_at shape words_received s (next_received asking + shape.window) ≡ free_word (next_received asking + shape.window)
    state-received = grind (arith, later-cell, word-here, some_room, there)

    home-received : home_at shape homes_received s (next_received asking + shape.window) ≡ Empty
    home-received = grind (arith, later-cell, home-here, some_room, there)

    shows-received : SenderShows shape (state_at shape words_received s) (first_at shape words_received s) (second_at shape words_received s) (home_at shape homes_received s)
        asking_received (collects (sender_at state s))
    shows-received = record {
      asked = mine.asked;
      received = grind (arith, next-answered-is, mine);
      stays_open = mine.stays_open;
      cells = λ n from below. grind (
        arith,
        cases_eq,
        cell-moved,
        place-received,
        some_room,
        unasked,
        limited,
        state-received,
        home-received,
        longer,
        state-else,
        apart-next,
        home-else,
        cell-kept,
        mine,
      );
      words = λ n from below.
          words-stay (next_received asking) (free_word (next_received asking + shape.window)) (query_of (sender_at state s) n) n (mine.words n (omega (arith, longer)) below);
      ahead = ahead-stays (next_received asking) (free_word (next_received asking + shape.window)) (next_asked asking) mine.ahead;
      room = λ some. (omega (arith, longer, (mine.room some).0), (mine.room some).1);
      found = λ f. grind (arith, mine);
      collecting = λ other e. absurd (cc);
    }

    pub receives : ShowsAfter meaning shape key (Some (Collect s)) state (sent shape key seat s asking (Receives answer) board)
    receives =
        happens (Collect s) (collects (sender_at state s)) words_received homes_received asking_received can-collect refl (λ _ _. refl)
        (wrote-size (next_received asking) state_field (free_word (next_received asking + shape.window)) (omega arith))
        (length-set board.homes (cell_of shape s (next_received asking)) Empty ∙ shows.homes) shows-received (λ _ _. refl)
        (of-others (next_received asking) (free_word (next_received asking + shape.window)) Empty)
