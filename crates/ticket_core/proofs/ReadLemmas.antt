-- What is read of a list after a push or a write, told by cases: a fact holds of what is read where
-- it holds in each case.
use Rattle.std.proofs.Common.{◌≡◌, ℕ, zero, suc, ◌<◌, List, [], ◌∷◌, ◌++◌, length, get_or, set, refl, arith}
use Rattle.std.proofs.lemmas.Bool.{cases_eq}
use Rattle.std.proofs.lemmas.List.{get_or-set_same, get_or-set_other, get_or_past}

module _ {A : Type 0} where
  pub appended : (xs : List A) (y d : A) (n : ℕ) (P : A → Type 0)
      → (n < length xs → P (get_or xs n d)) → (n ≡ length xs → P y) → (length xs < n → P d) → P (get_or (xs ++ y ∷ []) n d)
  appended [] y d zero P before at past = at refl
  appended [] y d (suc n) P before at past = past (omega arith)
  appended (x ∷ xs) y d zero P before at past = before (omega arith)
  appended (x ∷ xs) y d (suc n) P before at past = grind (arith, appended xs y d n P)

  pub replaced : (xs : List A) (i : ℕ) (y d : A) (n : ℕ) (P : A → Type 0) → i < length xs
      → (n ≡ i → P y) → ((n ≡ i → ⊥) → P (get_or xs n d)) → P (get_or (set xs i y) n d)
  replaced xs i y d n P h here other = grind (arith, cases_eq, get_or-set_same, get_or-set_other)

  -- what isn't the default is in the list
  pub inside : (xs : List A) (n : ℕ) (d : A) → (get_or xs n d ≡ d → ⊥) → n < length xs
  inside [] n d h = absurd (h (get_or_past [] n d (omega arith)))
  inside (x ∷ xs) zero d h = omega arith
  inside (x ∷ xs) (suc n) d h = let i : n < length xs = inside xs n d h in omega arith
