-- What lies in a slot of the ring's table, read off what the slot shows; and words that are written
-- as they were.
use Rattle.std.proofs.Common.{◌≡◌, ℕ, zero, suc, List, [], ◌∷◌, ◌++◌, map, get_or, set, replicate, Option, Some, None, refl, sym, ◌∙◌, ap, arith}
use Rattle.std.proofs.lemmas.List.{map-append, map-set}
use mathlib.Core.Option as maybe
use lib.ListN.{get_elem?}
use Rattle.ticket_core.specs.State.{Shown}
use Rattle.ticket_board.specs.Ring.Homes.{Home, Out, Empty, Full}
use Rattle.ticket_board.specs.Ring.Rule.{home_shown}

pub set-same : (words : List ℕ) (place : ℕ) → set words place (get_or words place 0) ≡ words
set-same [] place = refl
set-same (x ∷ xs) zero = refl
set-same (x ∷ xs) (suc place) = ap (λ (ys : List ℕ). x ∷ ys) (set-same xs place)

module _ {A : Type 0} (shown : A → Shown) where
  here-full : (home : maybe.Option (Option A)) (answer : Shown) → home_shown shown home ≡ Full answer
      → (x : A) × (home ≡ maybe.some (Some x)) × (shown x ≡ answer)
  here-full home answer e = grind arith

  here-empty : (home : maybe.Option (Option A)) → home_shown shown home ≡ Empty → home ≡ maybe.some None
  here-empty home e = grind arith

  pub home-full : (homes : List (maybe.Option (Option A))) (cell : ℕ) (answer : Shown) → get_or (map (home_shown shown) homes) cell Out ≡ Full answer
      → (x : A) × (get_elem? homes cell ≡ maybe.some (maybe.some (Some x))) × (shown x ≡ answer)
  home-full [] cell answer e = absurd (cc)
  home-full (h ∷ hs) zero answer e = let it = here-full h answer e in (it.0, ap maybe.some it.1, it.2)
  home-full (h ∷ hs) (suc cell) answer e = home-full hs cell answer e

  pub home-empty : (homes : List (maybe.Option (Option A))) (cell : ℕ) → get_or (map (home_shown shown) homes) cell Out ≡ Empty
      → get_elem? homes cell ≡ maybe.some (maybe.some None)
  home-empty [] cell e = absurd (cc)
  home-empty (h ∷ hs) zero e = ap maybe.some (here-empty h e)
  home-empty (h ∷ hs) (suc cell) e = home-empty hs cell e

  -- the slots of an opened ring are empty
  pub all-empty : (n : ℕ) → map (home_shown shown) (map maybe.some (replicate n None)) ≡ replicate n Empty
  all-empty zero = refl
  all-empty (suc n) = ap (λ (hs : List Home). Empty ∷ hs) (all-empty n)

-- ---- what is read of each of a list

module _ {X Y : Type 0} (f : X → Y) where
  pub get-map : (xs : List X) (i : ℕ) (x : X) → get_elem? xs i ≡ maybe.some x → get_elem? (map f xs) i ≡ maybe.some (f x)
  get-map [] i x e = absurd (maybe.some-ne-none x (sym e))
  get-map (y ∷ ys) zero x e = ap (λ (z : X). maybe.some (f z)) (maybe.some-injective y x e)
  get-map (y ∷ ys) (suc i) x e = get-map ys i x e

  pub map-cut : (xs : List X) (i : ℕ) (x last : X) → map f (set xs i x ++ last ∷ []) ≡ set (map f xs) i (f x) ++ f last ∷ []
  map-cut xs i x last = map-append f (set xs i x) (last ∷ []) ∙ ap (λ (zs : List Y). zs ++ f last ∷ []) (map-set f xs i x)
