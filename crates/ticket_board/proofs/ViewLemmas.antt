-- What holds of every view, when one changes or another comes; and the same of every item.
use Rattle.std.proofs.Common.{◌≡◌, ◌≢◌, ℕ, zero, suc, ◌⊎◌, List, [], ◌∷◌, ◌++◌, length, set, sym, refl, ap, inl, inr, ⊎_elim, arith}
use mathlib.Core.Option.{some, some-ne-none, some-injective}
use lib.ListN.{get_elem?}
use Rattle.atomic_table.proofs.Lists.{at_set}

module _ {V : Type 0} where
  abbrev pub All : (ℕ → V → Type 0) → List V → Type 0
  All F views = (port : ℕ) (v : V) → get_elem? views port ≡ some v → F port v

  -- one view changes
  pub changed : (F : ℕ → V → Type 0) (views : List V) (port : ℕ) (w : V) → F port w
      → ((j : ℕ) (u : V) → j ≢ port → get_elem? views j ≡ some u → F j u) → All F (set views port w)
  changed F views port w mine others j u e = grind (arith, ⊎_elim, at_set)

  -- the place of what is added
  at_end : (l : List V) (a b : V) (j : ℕ) → get_elem? (l ++ a ∷ []) j ≡ some b → (get_elem? l j ≡ some b) ⊎ ((j ≡ length l) × (a ≡ b))
  at_end [] a b zero e = inr (refl, some-injective a b e)
  at_end [] a b (suc j) e = absurd (some-ne-none b (sym e))
  at_end (x ∷ xs) a b zero e = inl e
  at_end (x ∷ xs) a b (suc j) e = ⊎_elim (λ t. inl t) (λ t. inr (ap suc t.0, t.1)) (at_end xs a b j e)

  -- the view that changed, the views that were there, and the one that is added
  pub set_here : (views : List V) (seat : ℕ) (old new : V) → get_elem? views seat ≡ some old → get_elem? (set views seat new) seat ≡ some new
  set_here [] seat old new e = absurd (some-ne-none old (sym e))
  set_here (x ∷ xs) zero old new e = refl
  set_here (x ∷ xs) (suc seat) old new e = set_here xs seat old new e

  pub still_there : (views more : List V) (seat : ℕ) (view : V) → get_elem? views seat ≡ some view → get_elem? (views ++ more) seat ≡ some view
  still_there [] more seat view e = absurd (some-ne-none view (sym e))
  still_there (x ∷ xs) more zero view e = e
  still_there (x ∷ xs) more (suc seat) view e = still_there xs more seat view e

  pub last_there : (views : List V) (view : V) → get_elem? (views ++ view ∷ []) (length views) ≡ some view
  last_there [] view = refl
  last_there (x ∷ xs) view = last_there xs view

  -- a view is added
  pub added : (F : ℕ → V → Type 0) (views : List V) (w : V) → F (length views) w → All F views → All F (views ++ w ∷ [])
  added F views w mine all j u e = grind (arith, ⊎_elim, at_end)
