-- Every step-th of the queries, and the answers to them.
use Rattle.std.proofs.Common.{◌≡◌, ℕ, zero, suc, ◌+◌, ◌-◌, ◌<◌, ◌≤◌, false, List, [], ◌∷◌, ◌++◌, length, map, get_or, drop, refl, sym, ap, subst, ◌∙◌, append_assoc, add-one, arith, drop-cons}
use Rattle.std.proofs.lemmas.List.{drop-drop, nil_from_length}
use Rattle.ticket_core.specs.declared.query.Query.{Query}
use Rattle.ticket_core.specs.declared.query.QueryKind.TheVariants.{Address}
use Rattle.ticket_core.specs.Shape.{Fits}
use Rattle.ticket_core.specs.State.{Shown, Meaning}
use Rattle.ticket_board.specs.declared.pool.task.Task.{Task}
use Rattle.ticket_board.specs.declared.pool.task.Lot.{Lot}
use Rattle.ticket_board.specs.Ring.Ends.{RingState}
use Rattle.ticket_board.specs.Ring.Opened.{askers_from}
use Rattle.ticket_board.specs.Seats.{ClientState, client_shown, new_clients}
use Rattle.ticket_board.specs.Pool.{every, EachFrom, IsLane, AreLanes, IsLaneOf, MaySend, IsPromised}

-- what is passed over is dropped
pub every_drop : (step k : ℕ) (queries : List Query) → every step k queries ≡ every step 0 (drop k queries)
every_drop step zero queries = refl
every_drop step (suc k) [] = refl
every_drop step (suc k) (query ∷ queries) = every_drop step k queries

-- the next query, and those from a step further on
pub every_next : (step next : ℕ) (queries : List Query) (query : Query) → 1 ≤ step → next < length queries → query ≡ get_or queries next query
    → every step 0 (drop next queries) ≡ query ∷ every step 0 (drop (next + step) queries)
every_next step next queries query positive within read =
    let further : drop (step - 1) (drop (suc next) queries) ≡ drop (next + step) queries =
    drop-drop (step - 1) (suc next) queries ∙ ap (λ n. drop n queries) (omega arith) in
    ap (every step 0) (drop-cons queries next query within)
    ∙ ap (λ rest. get_or queries next query ∷ rest) (every_drop step (step - 1) (drop (suc next) queries) ∙ ap (every step 0) further)
    ∙ ap (λ first. first ∷ every step 0 (drop (next + step) queries)) (sym read)

-- one more was asked
pub asked_next : (step next : ℕ) (queries asked : List Query) (query : Query) → 1 ≤ step → next < length queries → query ≡ get_or queries next query
    → (asked ++ query ∷ []) ++ every step 0 (drop (next + step) queries) ≡ asked ++ every step 0 (drop next queries)
asked_next step next queries asked query positive within read = grind (arith, append_assoc, every_next)

-- ---- lists of which each is known with its place

module _ {V : Type 0} where
  pub each_from_added : (F : ℕ → V → Type 0) (k : ℕ) (xs : List V) (x : V) → EachFrom F k xs → F (k + length xs) x → EachFrom F k (xs ++ x ∷ [])
  each_from_added F k [] x all last = (subst (λ n. F n x) (omega arith) last, tt)
  each_from_added F k (y ∷ xs) x all last = (all.0, each_from_added F (suc k) xs x all.1 (subst (λ n. F n x) (omega arith) last))

  pub each_from_end : (F : ℕ → V → Type 0) (xs ys : List V) (x : V) (n : ℕ) → EachFrom F 0 xs → ys ≡ xs ++ x ∷ [] → n ≡ length xs → F n x → EachFrom F 0 ys
  each_from_end F xs ys x n all is len last = grind (arith, each_from_added)

  -- without the first
  pub each_from_next : (F : ℕ → V → Type 0) (k n : ℕ) (xs rest : List V) (x : V) → EachFrom F k xs → xs ≡ x ∷ rest → n ≡ k + 1 → F k x × EachFrom F n rest
  each_from_next F k n xs rest x all is next = grind (arith, add-one)

  pub each_from_same : (F : ℕ → V → Type 0) (k n : ℕ) (xs ys : List V) → EachFrom F k xs → n ≡ k → ys ≡ xs → EachFrom F n ys
  each_from_same F k n xs ys all number is = subst (λ (x : ℕ × List V). EachFrom F x.0 x.1) (λ i. (sym number i, sym is i)) all

  pub each_from_none : (F : ℕ → V → Type 0) (xs : List V) → length xs ≡ 0 → EachFrom F 0 xs
  each_from_none F xs none = subst (EachFrom F 0) (sym (nil_from_length xs none)) tt

-- the clients of a new board are those of its senders, in order
each_new : (board : RingState) (task : Task) → task.key.now ≡ board.key → Fits task.shape → (s n : ℕ)
    → EachFrom (MaySend board task) s (map (client_shown false) (askers_from board s n))
each_new board task key fits s zero = tt
each_new board task key fits s (suc n) = grind (arith, each_new board task key fits (suc s) n)

pub all_new : (board : RingState) (task : Task) (clients : List ClientState) → task.key.now ≡ board.key → Fits task.shape
    → clients ≡ new_clients board → EachFrom (MaySend board task) 0 clients
all_new board task clients key fits is = subst (EachFrom (MaySend board task) 0) (sym is) (each_new board task key fits 0 board.shape.senders)

count_new : (board : RingState) (s n : ℕ) → length (map (client_shown false) (askers_from board s n)) ≡ n
count_new board s zero = refl
count_new board s (suc n) = ap suc (count_new board (suc s) n)

pub many_new : (board : RingState) (clients : List ClientState) → clients ≡ new_clients board → length clients ≡ board.shape.senders
many_new board clients is = ap length is ∙ count_new board 0 board.shape.senders

-- ---- lanes

module _ {A : Type 0} (shown : A → Shown) (meaning : Meaning) (key : List ℕ) (senders : ℕ) where
  -- one query less: the lane of each sender but the first is that of the sender before it
  lanes_on : (k : ℕ) (query : Query) (queries : List Query) (lanes : List (List A))
      → EachFrom (IsLane shown meaning key senders (query ∷ queries)) (suc k) lanes → EachFrom (IsLane shown meaning key senders queries) k lanes
  lanes_on k query queries [] all = tt
  lanes_on k query queries (lane ∷ lanes) all = (all.0, lanes_on (suc k) query queries lanes all.1)

  -- the first lane begins with the next answer, and without it is the last lane of the rest
  next_answer : (query : Query) (queries : List Query) (rest : List A) (answer : A)
      → IsLane shown meaning key senders (query ∷ queries) 0 (answer ∷ rest)
      → (shown answer ≡ meaning key query) × IsLane shown meaning key senders queries (senders - 1) rest
  next_answer query queries rest answer right = (cc right, cc right)

  -- it comes last
  pub turned : (i : ℕ) (queries : List Query) (lanes lanes' new : List (List A)) (lane : List A) (answer : A)
      → i < length queries → length lanes ≡ senders → lanes ≡ (answer ∷ lane) ∷ lanes' → new ≡ lanes' ++ lane ∷ []
      → AreLanes shown meaning key senders (drop i queries) lanes
      → (shown answer ≡ meaning key (get_or queries i (Address 0))) × AreLanes shown meaning key senders (drop (i + 1) queries) new
  turned i queries lanes lanes' new lane answer within len is new_is all =
      let query = get_or queries i (Address 0) in
      let later = drop (suc i) queries in
      let cut : drop i queries ≡ query ∷ later = drop-cons queries i (Address 0) within in
      let each : AreLanes shown meaning key senders (query ∷ later) ((answer ∷ lane) ∷ lanes') =
      subst (λ (x : List Query × List (List A)). AreLanes shown meaning key senders x.0 x.1) (λ j. (cut j, is j)) all in
      let next = next_answer query later lane answer each.0 in
      let many : senders - 1 ≡ 0 + length lanes' = omega (arith, len, ap length is) in
      let last : IsLane shown meaning key senders later (0 + length lanes') lane = subst (λ (k : ℕ). IsLane shown meaning key senders later k lane) many next.1 in (
        next.0,
        subst (λ (x : ℕ × List (List A)). AreLanes shown meaning key senders (drop x.0 queries) x.1)
            (λ j. (sym (add-one i) j, sym new_is j)) (each_from_added (IsLane shown meaning key senders later) 0 lanes' lane (lanes_on 0 query later lanes' each.1) last),
      )

  -- while queries are left, the first lane isn't empty
  pub not_empty : (i : ℕ) (queries : List Query) (lanes lanes' : List (List A)) → i < length queries → lanes ≡ [] ∷ lanes'
      → AreLanes shown meaning key senders (drop i queries) lanes → ⊥
  not_empty i queries lanes lanes' within is all =
      let query = get_or queries i (Address 0) in
      let cut : drop i queries ≡ query ∷ drop (suc i) queries = drop-cons queries i (Address 0) within in
      let each : AreLanes shown meaning key senders (query ∷ drop (suc i) queries) ([] ∷ lanes') =
      subst (λ (x : List Query × List (List A)). AreLanes shown meaning key senders x.0 x.1) (λ j. (cut j, is j)) all in
      cc each.0

-- what a thread promised is the lane of its sender
pub kept_lane : {A S : Type 0} (shown : A → Shown) (meaning : Meaning) (task : Task) (sender : ℕ) (lot : Lot S) (lane : List A)
    → IsPromised task sender lot → IsLaneOf shown meaning lot.task lot.sender lane → IsLaneOf shown meaning task sender lane
kept_lane shown meaning task sender lot lane promised kept = grind arith
