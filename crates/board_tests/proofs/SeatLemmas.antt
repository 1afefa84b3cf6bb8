-- What holds of each client and of each worker of a board holds of the last.
use Rattle.std.proofs.Common.{◌≡◌, ℕ, zero, suc, List, [], ◌∷◌, ◌++◌, refl, sym, subst}
use Rattle.std.specs.List.{AllByRecursion}
use Rattle.ticket_board.specs.Ring.Ends.{RingState, AskerState, IsAskerOf}
use Rattle.ticket_board.specs.Ring.Takers.{TakerState, IsTakerOf, HasEmptyHand}
use Rattle.ticket_board.specs.Ring.Opened.{askers_from, takers_from, new_askers, new_takers}

module _ {V : Type 0} where
  last_of : (F : V → Type 0) (items : List V) (item : V) → AllByRecursion F (items ++ item ∷ []) → F item
  last_of F [] item all = all.0
  last_of F (x ∷ xs) item all = last_of F xs item all.1

  pub each_last : (F : V → Type 0) (items front : List V) (item : V) → AllByRecursion F items → items ≡ front ++ item ∷ [] → F item
  each_last F items front item all is = last_of F front item (subst (AllByRecursion F) is all)

module _ {V : Type 0} where
  front_of : (F : V → Type 0) (items : List V) (item : V) → AllByRecursion F (items ++ item ∷ []) → AllByRecursion F items
  front_of F [] item all = tt
  front_of F (x ∷ xs) item all = (all.0, front_of F xs item all.1)

  pub each_front : (F : V → Type 0) (items front : List V) (item : V) → AllByRecursion F items → items ≡ front ++ item ∷ [] → AllByRecursion F front
  each_front F items front item all is = front_of F front item (subst (AllByRecursion F) is all)

-- the ends of a ring that was just opened are its own, and hold nothing
abbrev pub IsIdleTakerOf : RingState → TakerState → Type 0
IsIdleTakerOf ring taker = IsTakerOf ring taker × HasEmptyHand taker

askers-of : (ring : RingState) (s n : ℕ) → AllByRecursion (IsAskerOf ring) (askers_from ring s n)
askers-of ring s zero = tt
askers-of ring s (suc n) = (record { shape_is = refl; key_is = refl; table_is = refl }, askers-of ring (suc s) n)

pub all_askers : (ring : RingState) (askers : List AskerState) → askers ≡ new_askers ring → AllByRecursion (IsAskerOf ring) askers
all_askers ring askers is = subst (AllByRecursion (IsAskerOf ring)) (sym is) (askers-of ring 0 ring.shape.senders)

takers-of : (ring : RingState) (w n : ℕ) → AllByRecursion (IsIdleTakerOf ring) (takers_from ring w n)
takers-of ring w zero = tt
takers-of ring w (suc n) = ((record { shape_is = refl; key_is = refl; table_is = refl }, refl), takers-of ring (suc w) n)

pub all_takers : (ring : RingState) (takers : List TakerState) → takers ≡ new_takers ring → AllByRecursion (IsIdleTakerOf ring) takers
all_takers ring takers is = subst (AllByRecursion (IsIdleTakerOf ring)) (sym is) (takers-of ring 0 ring.shape.workers)
