-- What is kept stays at its key.
use Rattle.std.proofs.Common.{◌≡◌, ◌⊎◌, inl, ℕ, zero, suc, ◌+◌, ◌-◌, ◌≤◌, Bool, true, cond, List, [], ◌∷◌, Contains, take, length, Some, refl, sym, ◌∙◌, subst, arith}
use Rattle.std.specs.Prelude.{nat_eq, slice_get}
use Rattle.std.specs.Map.{lookup, lookup_entry, remove_entry, set_value}
use Rattle.std.proofs.lemmas.Bool.{eqb-true}
use Rattle.std.proofs.lemmas.Option.{same_Some}
use Rattle.lru.specs.LruCache.{LruCache, lru_cache, promoted, put_entries}
use Rattle.lru.proofs.Splits.{Contains-head, Contains-tail, Contains-cons}
use Rattle.lru.proofs.CallerLemmas.{Contains-take, Contains-lookup, Contains-promoted, Contains-put_entries}
use Rattle.dw_line.specs.TableAt.{table_size}
use Rattle.dw_symbols.specs.Kept.{AreOf, size_together}

-- each entry after a value was set was there, or is the one that was set
set_cases : {K V : Type 0} (test : K → Bool) (f : K × V) (es : List (K × V)) (w : V) (e : K × V) → (Contains (set_value test es w) e → Contains es e ⊎ ((e.1 ≡ w) × (test e.0 ≡ true))) → (here : Bool) → test f.0 ≡ here → Contains (cond here ((f.0, w) ∷ es) (f ∷ set_value test es w)) e
    → Contains (f ∷ es) e ⊎ ((e.1 ≡ w) × (test e.0 ≡ true))
set_cases test f es w e others here t h = grind (arith, Contains-cons, Contains-head, Contains-tail)

Contains-set_value : {K V : Type 0} (test : K → Bool) (es : List (K × V)) (w : V) (e : K × V) → Contains (set_value test es w) e → Contains es e ⊎ ((e.1 ≡ w) × (test e.0 ≡ true))
Contains-set_value test [] w e h = inl h
Contains-set_value test (f ∷ es) w e h = set_cases test f es w e (Contains-set_value test es w e) (test f.0) refl h

module _ {V : Type 0} (Is : ℕ → V → Type 0) where
  pub after-get : (es : List (ℕ × V)) (k : ℕ) → AreOf Is es → AreOf Is (promoted (nat_eq k) es)
  after-get es k all i v h = all i v (Contains-promoted (nat_eq k) es (i, v) h)

  pub after-set : (es : List (ℕ × V)) (k : ℕ) (v : V) → AreOf Is es → Is k v → AreOf Is (set_value (nat_eq k) (promoted (nat_eq k) es) v)
  after-set es k v all own i w h =
      grind (arith, Contains-set_value (nat_eq k) (promoted (nat_eq k) es) v (i, w) h, after-get es k all i w, eqb-true)

  pub after-put : (old new : LruCache ℕ V) (k : ℕ) (v : V) → new ≡ lru_cache (put_entries nat_eq old k v) old.cap → AreOf Is old.entries → Is k v → AreOf Is new.entries
  after-put old new k v same all own i w h =
      grind (arith, Contains-put_entries nat_eq old k v (i, w), eqb-true, all i w)

  pub after-take : (es : List (ℕ × V)) (n : ℕ) → AreOf Is es → AreOf Is (take n es)
  after-take es n all i v h = all i v (Contains-take n es (i, v) h)

  pub after-same : (new : LruCache ℕ V) (n : ℕ) (es : List (ℕ × V)) (cap : ℕ) → new ≡ lru_cache (take n es) cap → AreOf Is es → AreOf Is new.entries
  after-same new n es cap same all = subst (λ (cache : LruCache ℕ V). AreOf Is cache.entries) (sym same) (after-take es n all)

  pub looked-up : (es : List (ℕ × V)) (k : ℕ) (v : V) → AreOf Is es → Some v ≡ lookup (nat_eq k) es → Is k v
  looked-up es k v all value = grind (arith, Contains-lookup, eqb-true)

-- ---- the bytes of tables

module _ {V : Type 0} (line : List ℕ) where
  -- an entry that is taken out
  size-without : (test : ℕ → Bool) (es : List (ℕ × V)) (e : ℕ × V) → lookup_entry test es ≡ Some e → table_size line e.0 + size_together line (remove_entry test es) ≡ size_together line es
  size-without test [] e h = absurd cc
  size-without test (f ∷ es) e h = grind (arith, size-without test es e)

  pub size-promoted : (test : ℕ → Bool) (es : List (ℕ × V)) → size_together line (promoted test es) ≡ size_together line es
  size-promoted test es = grind (arith, size-without)

  pub size-set : (test : ℕ → Bool) (es : List (ℕ × V)) (v : V) → size_together line (set_value test es v) ≡ size_together line es
  size-set test [] v = refl
  size-set test (f ∷ es) v = grind (arith, size-set test es v)

  -- a table that was used is the first one, and was turned
  pub size-after-set : (es : List (ℕ × V)) (k : ℕ) (v : V) → size_together line (set_value (nat_eq k) (promoted (nat_eq k) es) v) ≡ size_together line es
  size-after-set es k v = size-set (nat_eq k) (promoted (nat_eq k) es) v ∙ size-promoted (nat_eq k) es

  size-take : (n : ℕ) (es : List (ℕ × V)) → size_together line (take n es) ≤ size_together line es
  size-take zero es = omega arith
  size-take (suc n) [] = omega arith
  size-take (suc n) (f ∷ es) = omega (arith, size-take n es)

  -- those before an entry, and it
  pub size-before : (n : ℕ) (es : List (ℕ × V)) (e : ℕ × V) → slice_get es n ≡ Some e → size_together line (take n es) + table_size line e.0 ≤ size_together line es
  size-before n [] e h = absurd cc
  size-before n (f ∷ es) e h = grind (arith, same_Some, λ (n : ℕ). size-before n es)

  -- what is left where the last one is taken out
  pub oldest-gone : (es : List (ℕ × V)) (new : LruCache ℕ V) (cap size left : ℕ) (e : ℕ × V) → Some e ≡ slice_get es (length es - 1) → new ≡ lru_cache (take (length es - 1) es) cap → size_together line es ≤ size → left ≡ size - table_size line e.0 → size_together line new.entries ≤ left
  oldest-gone es new cap size left e there same counted is = grind (arith, size-before)

  pub size-put : (old : LruCache ℕ V) (k : ℕ) (v : V) → size_together line (put_entries nat_eq old k v) ≤ size_together line old.entries + table_size line k
  size-put old k v = grind (arith, size-take, size-without)
