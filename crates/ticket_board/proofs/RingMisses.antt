-- A look that notes a miss whatever it found: on some ring, no moves make what it would leave.
use Rattle.std.proofs.Common.{◌≡◌, ℕ, zero, suc, ◌+◌, ◌-◌, ◌*◌, ◌<◌, ◌≤◌, ◌⊎◌, Bool, ltb, if◌then◌else◌, List, [], ◌∷◌, ◌++◌, length, get_or, set, Option, Some, None, inl, inr, ⊎_elim, refl, sym, ◌∙◌, ap, subst, arith, rules}
use Rattle.std.proofs.lemmas.List.{length-append}
use Rattle.std.proofs.Math.Seq.{get_or-append_seam}
use mathlib.Core.Option.{some, some-ne-none}
use lib.ListN.{get_elem?}
use Rattle.ticket_core.specs.declared.query.Query.{Query}
use Rattle.ticket_core.specs.declared.query.QueryKind.TheVariants.{Address}
use Rattle.ticket_core.specs.declared.shape.Shape.{Shape}
use Rattle.ticket_core.specs.Shape.{Fits}
use Rattle.ticket_core.specs.State.{Meaning, Ticket}
use Rattle.ticket_board.specs.Ring.Layout.{state_at, state_place, asked_word}
use Rattle.ticket_board.specs.Ring.Homes.{Home, Out, Full, home_at, answer_at_home}
use Rattle.ticket_board.specs.Ring.Views.{Known, Nothing, FirstWord, Whole, Asking, Working, Role, Opens, Asks, View, opener, asker, worker, sender_seat, worker_seat, asking_at, new_asking, new_working, next_received}
use Rattle.ticket_board.specs.Ring.Views as Views
use Rattle.ticket_board.specs.Ring.Shows.{Board}
use Rattle.ticket_board.specs.Ring.Steps.{SenderStep, MaySend, WritesFirst, WritesSecond, Publishes, LooksNext, BringsOut, Receives, asking_after, words_sent, WorkerStep, MayWork, LooksAt, Takes, ReadsFirst, ReadsSecond, Answers, working_after, word_worked}
use Rattle.ticket_board.specs.Ring.Opening.{AreFree, next_seat}
use Rattle.ticket_board.specs.Ring.Moves.{Move, Cuts, Sends, Works, MayMove, moved, board_after, MayBeMade, stamps_after, IsMade}
use Rattle.ticket_board.specs.Ring.Misses.{misses, MayMiss}
use Rattle.ticket_board.proofs.RingFrames.{asking-here}
use Rattle.ticket_board.proofs.RingMoves.{moves-show}

-- ---- how many moves a ring takes at least: what each seat knows weighs as many

abbrev known-weight : Known → ℕ
known-weight Nothing = 0
known-weight (FirstWord word) = 1
known-weight (Whole query) = 2

abbrev seen-weight : Option Ticket → ℕ
seen-weight None = 0
seen-weight (Some ticket) = 1

abbrev hand-weight : Option Ticket → Known → ℕ
hand-weight None read = 0
hand-weight (Some ticket) read = 2 + known-weight read

abbrev asking-weight : Asking → ℕ
asking-weight asking = length asking.missed + (3 * length asking.asked + known-weight asking.ahead)

abbrev working-weight : Working → ℕ
working-weight working = 5 * length working.done + (hand-weight working.hand working.read + seen-weight working.seen)

abbrev role-weight : Role → ℕ
role-weight (Opens cut) = 0
role-weight (Asks s asking) = 1 + asking-weight asking
role-weight (Views.Works w working) = 1 + working-weight working

abbrev weights : List View → ℕ
weights [] = 0
weights (view ∷ views) = role-weight view.role + weights views

weights-set : (views : List View) (seat : ℕ) (old new : View) → get_elem? views seat ≡ some old
    → weights (set views seat new) + role-weight old.role ≡ weights views + role-weight new.role
weights-set [] seat old new e = absurd (some-ne-none old (sym e))
weights-set (x ∷ xs) zero old new e = grind arith
weights-set (x ∷ xs) (suc seat) old new e = grind (arith, weights-set xs seat old new e)

weights-more : (views : List View) (view : View) → weights (views ++ view ∷ []) ≡ weights views + role-weight view.role
weights-more [] view = omega arith
weights-more (x ∷ xs) view = let later : weights (xs ++ view ∷ []) ≡ weights xs + role-weight view.role = weights-more xs view in omega arith

-- ---- a move weighs at most one

missed-weight : (hit : Bool) (missed : List ℕ) (n : ℕ) → length (if hit then missed else missed ++ n ∷ []) ≤ length missed + 1
missed-weight hit missed n = grind (arith, length-append)

sent-weight : (shape : Shape) (asking : Asking) (step : SenderStep) (word : ℕ) (home : Home) → MaySend shape asking step
    → asking-weight (asking_after asking step word home) ≤ asking-weight asking + 1
sent-weight shape asking step word home may = grind (arith, length-append, missed-weight)

seen-most : (hit : Bool) (ticket : Ticket) → seen-weight (if hit then Some ticket else None) ≤ 1
seen-most hit ticket = grind arith

taken-most : (hit : Bool) (ticket : Ticket) → hand-weight (if hit then Some ticket else None) Nothing ≤ 2
taken-most hit ticket = grind arith

worked-weight : (meaning : Meaning) (shape : Shape) (key : List ℕ) (working : Working) (step : WorkerStep) (word : ℕ) → MayWork meaning shape key working step
    → working-weight (working_after shape working step word) ≤ working-weight working + 1
worked-weight meaning shape key working step word may = grind (arith, seen-most, taken-most, length-append)

next-weight : (cut w : ℕ) (b : Bool) → role-weight (if b then Asks cut new_asking else Views.Works w new_working) ≡ 1
next-weight cut w b = grind arith

module _ (meaning : Meaning) (shape : Shape) (key : List ℕ) where
  moved-weight : (board : Board) (move : Move) → MayMove meaning shape key board move → weights (moved shape key board move).views ≤ weights board.views + 1
  moved-weight board (Cuts cut) may =
      let told : List View = set board.views 0 (opener shape key (suc cut)) in
      let same : weights told + 0 ≡ weights board.views + 0 = weights-set board.views 0 (opener shape key cut) (opener shape key (suc cut)) may.0 in
      let more : weights (told ++ next_seat shape key cut ∷ []) ≡ weights told + role-weight (next_seat shape key cut).role = weights-more told (next_seat shape key cut) in
      let one : role-weight (next_seat shape key cut).role ≡ 1 = next-weight cut (cut - shape.senders) (ltb cut shape.senders) in
      omega arith
  moved-weight board (Sends s asking step) may =
      let word : ℕ = state_at shape board.words s (next_received asking) in
      let home : Home = home_at shape board.homes s (next_received asking) in
      let new : Asking = asking_after asking step word home in
      let changed : weights (set board.views (sender_seat s) (asker shape key s new)) + (1 + asking-weight asking) ≡ weights board.views + (1 + asking-weight new) =
      weights-set board.views (sender_seat s) (asker shape key s asking) (asker shape key s new) may.0 in
      omega (arith, sent-weight shape asking step word home may.1)
  moved-weight board (Works w working step) may =
      let word : ℕ = get_or board.words (word_worked shape step) 0 in
      let new : Working = working_after shape working step word in
      let changed : weights (set board.views (worker_seat shape w) (worker shape key w new)) + (1 + working-weight working) ≡ weights board.views + (1 + working-weight new) =
      weights-set board.views (worker_seat shape w) (worker shape key w working) (worker shape key w new) may.0 in
      omega (arith, worked-weight meaning shape key working step word may.1)

  moves-weight : (words : List ℕ) (moves : List Move) → MayBeMade meaning shape key words moves → weights (board_after shape key words moves).views ≤ length moves
  moves-weight words [] may = omega arith
  moves-weight words (move ∷ moves) may = omega (arith, moves-weight words moves may.0, moved-weight (board_after shape key words moves) move may.1)

-- ---- a ring on which one sender asked one query, and one worker answered it

abbrev small : Shape
small = record { senders = 1; workers = 1; window = 1; most = 1 }

small-fits : Fits small
small-fits = (omega arith, omega arith, omega arith, omega arith, omega arith, omega arith, omega arith, omega arith)

abbrev free_words : List ℕ
free_words = 0 ∷ 0 ∷ 0 ∷ []

are-free : AreFree small free_words
are-free = grind arith

abbrev query : Query
query = Address 0

abbrev ahead_first : Asking
ahead_first = asking_after new_asking (WritesFirst 0) 0 Out

abbrev ahead_whole : Asking
ahead_whole = asking_after ahead_first (WritesSecond query) 0 Out

abbrev asked : Asking
asked = asking_after ahead_whole (Publishes query) 0 Out

abbrev saw : Working
saw = working_after small new_working (LooksAt 0) 1

abbrev took : Working
took = working_after small saw (Takes 0 0) 1

abbrev read_one : Working
read_one = working_after small took (ReadsFirst 0 0) 0

abbrev read_both : Working
read_both = working_after small read_one (ReadsSecond 0 0 0) 0

abbrev done : Working
done = record read_both { hand = None; read = Nothing; done = (0, 0) ∷ [] }

-- ---- the last of any moves that would make the ring with the miss

set-or : (xs : List ℕ) (i n : ℕ) → (get_or (set xs i n) i 0 ≡ n) ⊎ (get_or (set xs i n) i 0 ≡ 0)
set-or [] i n = inr refl
set-or (x ∷ xs) zero n = inl refl
set-or (x ∷ xs) (suc i) n = set-or xs i n

-- it cut off no seat, since the last seat made steps
no-cut : (xs : List ℕ) (last : ℕ) → 0 ∷ last ∷ 10 ∷ [] ≡ xs ++ 0 ∷ [] → ⊥
no-cut xs last is =
    let long : length xs ≡ 2 = omega (arith, ap length is, length-append xs (0 ∷ [])) in
    let e : 10 ≡ 0 = ap (λ (ys : List ℕ). get_or ys 2 0) is ∙ ap (λ (n : ℕ). get_or (xs ++ 0 ∷ []) n 0) (sym long) ∙ get_or-append_seam xs 0 [] 0 in
    omega (arith, e)

-- it is no step of the sender
no-send : (s : ℕ) (asking : Asking) (step : SenderStep) (words : List ℕ) (home : Home) → s ≡ 0
    → misses asked ≡ asking_after asking step (state_at small words s (next_received asking)) home → 3 ∷ 0 ∷ 0 ∷ [] ≡ words_sent small s asking step words → ⊥
no-send s asking (WritesFirst first) words home at told is = let e : Nothing ≡ FirstWord first = ap (λ (x : Asking). x.ahead) told in absurd (cc)
no-send s asking (WritesSecond other) words home at told is = let e : Nothing ≡ Whole other = ap (λ (x : Asking). x.ahead) told in absurd (cc)
no-send s asking BringsOut words home at told is = let e : None ≡ Some (answer_at_home home) = ap (λ (x : Asking). x.collecting) told in absurd (cc)
no-send s asking (Receives answer) words home at told is =
    let e : 0 ≡ length (asking.received ++ answer ∷ []) = ap (λ (x : Asking). length x.received) told in
    absurd (omega (arith, e, length-append asking.received (answer ∷ [])))
no-send s asking LooksNext words home at told is = grind arith
no-send s asking (Publishes other) words home at told is =
    let e : 1 ≡ length (asking.asked ++ other ∷ []) = ap (λ (x : Asking). length x.asked) told in
    let none : length asking.asked ≡ 0 = omega (arith, e, length-append asking.asked (other ∷ [])) in
    let e' : 3 ≡ get_or (set words 0 1) 0 0 =
    ap (λ (xs : List ℕ). get_or xs 0 0) (subst (λ (x : ℕ × ℕ). 3 ∷ 0 ∷ 0 ∷ [] ≡ set words (state_place small x.0 x.1) (asked_word x.1)) (λ i. (at i, none i)) is) in
    ⊎_elim (λ (x : get_or (set words 0 1) 0 0 ≡ 1). absurd (omega (arith, e', x))) (λ (x : get_or (set words 0 1) 0 0 ≡ 0). absurd (omega (arith, e', x))) (set-or words 0 1)

module _ (meaning : Meaning) (key : List ℕ) where
  abbrev all_moves : List Move
  all_moves =
      Works 0 read_both (Answers 0 0 query (meaning key query)) ∷ Works 0 read_one (ReadsSecond 0 0 0) ∷ Works 0 took (ReadsFirst 0 0) ∷ Works 0 saw (Takes 0 0)
      ∷ Works 0 new_working (LooksAt 0) ∷ Sends 0 ahead_whole (Publishes query) ∷ Sends 0 ahead_first (WritesSecond query) ∷ Sends 0 new_asking (WritesFirst 0)
      ∷ Cuts 1 ∷ Cuts 0 ∷ []

  all-may : MayBeMade meaning small key free_words all_moves
  all-may = search (rules, small-fits, are-free)

  abbrev with_sender : Asking → Board
  with_sender asking = record {
    words = 3 ∷ 0 ∷ 0 ∷ [];
    homes = Full (meaning key query) ∷ [];
    views = opener small key 2 ∷ asker small key 0 asking ∷ worker small key 0 done ∷ [];
  }

  is-made : IsMade meaning small key (with_sender asked) (0 ∷ 5 ∷ 10 ∷ [])
  is-made = (free_words, all_moves, record { may = all-may; is = refl; stamps_are = refl })

  no-last : (words : List ℕ) (last : ℕ) (moves : List Move) → MayBeMade meaning small key words moves → with_sender (misses asked) ≡ board_after small key words moves
      → 0 ∷ last ∷ 10 ∷ [] ≡ stamps_after small moves → 11 ≤ length moves → ⊥
  no-last words last [] may is stamps many = omega (arith, many)
  no-last words last (Cuts cut ∷ moves) may is stamps many = no-cut (set (stamps_after small moves) 0 0) last stamps
  no-last words last (Works w working step ∷ moves) may is stamps many =
      let before = moves-show meaning small key words moves may.0 in
      let below : w < 1 = (before.1.seated (worker_seat small w) (worker small key w working) may.1.0).stands.1 in
      let seat : worker_seat small w ≡ 2 = omega arith in
      let e : 10 ≡ get_or (set (stamps_after small moves) 2 (suc (length moves))) 2 0 =
      ap (λ (xs : List ℕ). get_or xs 2 0) (stamps ∙ ap (λ (x : ℕ). set (stamps_after small moves) x (suc (length moves))) seat) in
      ⊎_elim (λ (x : get_or (set (stamps_after small moves) 2 (suc (length moves))) 2 0 ≡ suc (length moves)). absurd (omega (arith, e, x, many)))
      (λ (x : get_or (set (stamps_after small moves) 2 (suc (length moves))) 2 0 ≡ 0). absurd (omega (arith, e, x)))
      (set-or (stamps_after small moves) 2 (suc (length moves)))
  no-last words last (Sends s asking step ∷ moves) may is stamps many =
      let before = moves-show meaning small key words moves may.0 in
      let old : Board = board_after small key words moves in
      let below : s < 1 = (before.1.seated (sender_seat s) (asker small key s asking) may.1.0).stands.1 in
      let at : s ≡ 0 = omega arith in
      let home : Home = home_at small old.homes s (next_received asking) in
      let new : Asking = asking_after asking step (state_at small old.words s (next_received asking)) home in
      let told : misses asked ≡ new =
      ap (λ (x : ℕ). asking_at (with_sender (misses asked)).views x) (sym at) ∙ ap (λ (x : Board). asking_at x.views s) is
      ∙ asking-here meaning small key old before.0 before.1 (sender_seat s) s asking may.1.0 old.words old.homes new before.0 in
      no-send s asking step old.words home at told (ap (λ (x : Board). x.words) is)

  not-made : (last : ℕ) → IsMade meaning small key (with_sender (misses asked)) (0 ∷ last ∷ 10 ∷ []) → ⊥
  not-made last (words, moves, made) = grind (arith, no-last, moves-weight)

-- so it isn't allowed
pub never_misses : (meaning : Meaning) → MayMiss meaning → ⊥
never_misses meaning may =
    let it = may small [] (with_sender meaning [] asked) (0 ∷ 5 ∷ 10 ∷ []) 0 asked (is-made meaning []) refl refl in not-made meaning [] it.0 it.1
