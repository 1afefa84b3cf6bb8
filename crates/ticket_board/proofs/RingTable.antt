-- The ring's table as it is opened, and seats that are cut off from it.
use Rattle.std.proofs.Common.{◌≡◌, ℕ, zero, suc, ◌+◌, ◌*◌, ◌%◌, ◌<◌, ◌≤◌, List, [], ◌∷◌, ◌++◌, length, map, get_or, set, replicate, Option, None, inl, inr, refl, sym, ◌∙◌, ap, subst, arith}
use Rattle.std.proofs.lemmas.Bool.{cases_lt, lt-ltb, le-ltb}
use Rattle.std.proofs.lemmas.List.{length-append, get_or_append_left}
use Rattle.std.proofs.Math.Seq.{get_or-append_seam}
use Rattle.std.proofs.lemmas.Nat.{mul-le}
use Rattle.atomic_table.specs.Table as table
use Rattle.ticket_core.specs.declared.shape.Shape.{Shape}
use Rattle.ticket_core.specs.Shape.{Fits}
use Rattle.ticket_core.specs.State.{Shown, Meaning}
use Rattle.atomic_table.specs.Seated.{TableId}
use Rattle.ticket_board.specs.Ring.Layout.{cells_in, words_in, state_field, word_of, free_word}
use Rattle.ticket_board.specs.Ring.Homes.{Home, Empty}
use Rattle.ticket_board.specs.Ring.Views.{View, Stamped, stamped, opener, asker, worker, new_asking, new_working}
use Rattle.ticket_board.specs.Ring.Shows.{Board, Sits}
use Rattle.ticket_board.specs.Ring.Opening.{AreFree, opened, next_seat, cut_off}
use Rattle.ticket_board.specs.Ring.Moves.{Cuts, IsMade}
use Rattle.ticket_board.specs.Ring.Rule.{home_shown, board_shown, lasts_of, Holds, cut_of, left_after, cut_from}
use Rattle.ticket_board.specs.Ring.Ends.{RingState, AskerState}
use Rattle.ticket_board.specs.Ring.Takers.{TakerState}
use Rattle.ticket_board.specs.Ring.Opened.{IsDesk, new_asker, new_taker, askers_from, takers_from}
use Rattle.ticket_board.proofs.RingHomes.{all-empty, get-map, map-cut}
use Rattle.ticket_board.proofs.RingMoves.{made-shows, made-on}

module _ {A : Type 0} (shown : A → Shown) (meaning : Meaning) where
  -- no move made the opened table
  pub opening-holds : (shape : Shape) (key words : List ℕ) (count : ℕ) → Fits shape → AreFree shape words → count ≡ cells_in shape
      → Holds shown meaning shape key (table.opening words (replicate count None) (stamped (opener shape key 0) 0))
  opening-holds shape key words count fits free is =
      let made : IsMade meaning shape key (opened shape key words) (0 ∷ []) =
      (words, [], record { may = (fits, free); is = refl; stamps_are = refl }) in
      subst (λ (x : List Home). IsMade meaning shape key (record { words = words; homes = x; views = opener shape key 0 ∷ [] }) (0 ∷ []))
      (sym (all-empty shown count ∙ ap (λ (n : ℕ). replicate n Empty) is)) made

  -- and a seat that is cut off keeps the rule
  pub splits-allowed : (shape : Shape) (key : List ℕ) (id cut : ℕ) → cut < shape.senders + shape.workers
      → table.Splits (Holds shown meaning shape key) id (stamped (opener shape key cut) 0) (stamped (opener shape key (suc cut)) 0)
      (stamped (next_seat shape key cut) 0)
  splits-allowed shape key id cut left state holds sits =
      let board : Board = board_shown shown state in
      let stands : Sits board id (opener shape key cut) = get-map (λ (x : Stamped). x.view) state.views id (stamped (opener shape key cut) 0) sits in
      let here : id ≡ 0 = ((made-shows meaning shape key board (lasts_of state.views) holds).1.seated id (opener shape key cut) stands).stands.0 in
      subst (λ (x : List View × List ℕ). IsMade meaning shape key (record { words = state.words; homes = map (home_shown shown) state.homes; views = x.0 }) x.1)
      (λ i. (
        sym (map-cut (λ (x : Stamped). x.view) state.views id (stamped (opener shape key (suc cut)) 0) (stamped (next_seat shape key cut) 0)) i,
        sym (map-cut (λ (x : Stamped). x.last) state.views id (stamped (opener shape key (suc cut)) 0) (stamped (next_seat shape key cut) 0)) i,
      ))
      (subst (λ (x : ℕ). IsMade meaning shape key (cut_off shape key x cut board) (set (lasts_of state.views) x 0 ++ 0 ∷ [])) (sym here)
      (made-on meaning shape key board (lasts_of state.views) holds (Cuts cut)
      (subst (λ (x : ℕ). Sits board x (opener shape key cut)) here stands, left)))

-- the same of the seat that is the ring's
pub desk-splits : {A : Type 0} (shown : A → Shown) (meaning : Meaning) (ring : RingState) (id : ℕ) (table_id : TableId) (me : table.Me (Option A) Stamped)
    → IsDesk meaning ring (cut_of me.0.view.role) table_id me → cut_of me.0.view.role < ring.shape.senders + ring.shape.workers
    → table.Splits (Holds shown meaning ring.shape ring.key) id me.0 (left_after me.0) (cut_from me.0)
desk-splits {A} shown meaning ring id table_id me desk left =
    subst (λ (x : Stamped). table.Splits (Holds shown meaning ring.shape ring.key) id x (left_after x) (cut_from x))
    (sym (ap (λ x. x.0) desk.knows)) (splits-allowed shown meaning ring.shape ring.key id (cut_of me.0.view.role) left)

-- there is a word
pub some-words : (shape : Shape) → Fits shape → 0 < words_in shape
some-words shape fits = let some : 1 * 1 ≤ shape.senders * shape.window = mul-le 1 1 shape.senders shape.window fits.0 fits.4 in omega arith

-- ---- the words

pub free-more : (window cell : ℕ) (words words' words'' all : List ℕ) → length words ≡ 3 * cell
    → ((k : ℕ) → k < cell → get_or words (word_of k state_field) 0 ≡ free_word (k % window))
    → words' ≡ words ++ free_word (cell % window) ∷ [] → words'' ≡ words' ++ 0 ∷ [] → all ≡ words'' ++ 0 ∷ []
    → (k : ℕ) → k < cell + 1 → get_or all (word_of k state_field) 0 ≡ free_word (k % window)
free-more window cell words words' words'' all len below is is' is'' k h =
    let long : length words' ≡ 3 * cell + 1 = ap length is ∙ length-append words (free_word (cell % window) ∷ []) ∙ omega arith in
    let longer : length words'' ≡ 3 * cell + 2 = ap length is' ∙ length-append words' (0 ∷ []) ∙ omega arith in
    let second : get_or all (word_of k state_field) 0 ≡ get_or words'' (word_of k state_field) 0 =
    ap (λ (xs : List ℕ). get_or xs (word_of k state_field) 0) is'' ∙ get_or_append_left words'' (0 ∷ []) 0 (word_of k state_field) (omega arith) in
    let first : get_or words'' (word_of k state_field) 0 ≡ get_or words' (word_of k state_field) 0 =
    ap (λ (xs : List ℕ). get_or xs (word_of k state_field) 0) is' ∙ get_or_append_left words' (0 ∷ []) 0 (word_of k state_field) (omega arith) in
    second ∙ first ∙ ap (λ (xs : List ℕ). get_or xs (word_of k state_field) 0) is
    ∙ elim (cases_lt k cell) [
      | inl lt ↦ get_or_append_left words (free_word (cell % window) ∷ []) 0 (word_of k state_field) (omega arith) ∙ below k lt
      | inr le ↦ (
          let e : k ≡ cell = omega arith in
          let at : word_of k state_field ≡ length words = omega arith in
          ap (λ (n : ℕ). get_or (words ++ free_word (cell % window) ∷ []) n 0) at ∙ get_or-append_seam words (free_word (cell % window)) [] 0
          ∙ ap (λ (n : ℕ). free_word (n % window)) (sym e))
    ]

-- ---- the ends

pub askers-more : (ring : RingState) (s n : ℕ) → askers_from ring s n ++ new_asker ring (s + n) ∷ [] ≡ askers_from ring s (n + 1)
askers-more ring s zero = let e : s + 0 ≡ s = omega arith in ap (λ (k : ℕ). new_asker ring k ∷ []) e
askers-more ring s (suc n) = grind (arith, askers-more ring (suc s) n)

pub takers-more : (ring : RingState) (w n : ℕ) → takers_from ring w n ++ new_taker ring (w + n) ∷ [] ≡ takers_from ring w (n + 1)
takers-more ring w zero = let e : w + 0 ≡ w = omega arith in ap (λ (k : ℕ). new_taker ring k ∷ []) e
takers-more ring w (suc n) = grind (arith, takers-more ring (suc w) n)

pub sender-next : (shape : Shape) (key : List ℕ) (cut : ℕ) → cut < shape.senders → next_seat shape key cut ≡ asker shape key cut new_asking
sender-next shape key cut h = grind (arith, lt-ltb)

pub worker-next : (shape : Shape) (key : List ℕ) (cut w : ℕ) → cut ≡ shape.senders + w → next_seat shape key cut ≡ worker shape key w new_working
worker-next shape key cut w at = grind (arith, le-ltb)

-- what the seat that was cut off next shows, in the end of a sender or of a worker
module _ {A : Type 0} where
  pub asker-cut : (ring : RingState) (s : ℕ) (desk me : table.Me (Option A) Stamped) → s < ring.shape.senders → desk ≡ (stamped (opener ring.shape ring.key s) 0, [])
      → me ≡ (stamped (next_seat ring.shape ring.key (cut_of desk.0.view.role)) 0, []) → me ≡ (stamped (asker ring.shape ring.key s new_asking) 0, [])
  asker-cut ring s desk me below was is = grind (arith, sender-next)

  pub taker-cut : (ring : RingState) (w : ℕ) (desk me : table.Me (Option A) Stamped) → desk ≡ (stamped (opener ring.shape ring.key (ring.shape.senders + w)) 0, [])
      → me ≡ (stamped (next_seat ring.shape ring.key (cut_of desk.0.view.role)) 0, []) → me ≡ (stamped (worker ring.shape ring.key w new_working) 0, [])
  taker-cut ring w desk me was is = grind (arith, worker-next)

  -- the seat from which it was cut off
  pub desk-after : (meaning : Meaning) (ring : RingState) (cut more : ℕ) (table_id : TableId) (desk new : table.Me (Option A) Stamped) → desk ≡ (stamped (opener ring.shape ring.key cut) 0, [])
      → IsDesk meaning ring (cut_of desk.0.view.role + 1) table_id new → more ≡ cut + 1 → IsDesk meaning ring more table_id new
  desk-after meaning ring cut more table_id desk new was is next = grind arith

-- one end more
pub askers-then : (ring : RingState) (s : ℕ) (askers askers' : List AskerState) (new : AskerState) → askers ≡ askers_from ring 0 s → askers' ≡ askers ++ new ∷ []
    → new ≡ new_asker ring s → askers' ≡ askers_from ring 0 (s + 1)
askers-then ring s askers askers' new was is end =
    is ∙ (λ i. was i ++ end i ∷ []) ∙ ap (λ (n : ℕ). askers_from ring 0 s ++ new_asker ring n ∷ []) (let e : s ≡ 0 + s = omega arith in e) ∙ askers-more ring 0 s

pub takers-then : (ring : RingState) (w : ℕ) (takers takers' : List TakerState) (new : TakerState) → takers ≡ takers_from ring 0 w → takers' ≡ takers ++ new ∷ []
    → new ≡ new_taker ring w → takers' ≡ takers_from ring 0 (w + 1)
takers-then ring w takers takers' new was is end =
    is ∙ (λ i. was i ++ end i ∷ []) ∙ ap (λ (n : ℕ). takers_from ring 0 w ++ new_taker ring n ∷ []) (let e : w ≡ 0 + w = omega arith in e) ∙ takers-more ring 0 w
