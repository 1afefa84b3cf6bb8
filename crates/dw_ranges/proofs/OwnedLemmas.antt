-- A later owner whose ranges all have owners already owns no address.
use Rattle.std.proofs.Common.{◌≡◌, ◌∙◌, ℕ, ◌<◌, ◌≤◌, min, List, ◌++◌, Option, Some, None, refl, sym, ap, arith, append_assoc}
use Rattle.std.proofs.lemmas.List.{map-append}
use Rattle.dw_model.specs.Ranges.{Range}
use Rattle.dw_index.specs.Owners.{least, least_owner}
use Rattle.dw_index.proofs.LawLemmas.{of_list}
use Rattle.dw_index.proofs.OwnerLemmas.{least_owner-append, least-none}
use Rattle.dw_ranges.specs.Owned.{AreOwned, owned}

-- the lesser of two owners is at most the first
least-low : (owner bound : ℕ) (other : Option ℕ) → owner < bound → (found : ℕ) × (least (Some owner) other ≡ Some found) × (found < bound)
least-low owner bound None h = (owner, refl, h)
least-low owner bound (Some k) h = (min owner k, refl, omega (arith, h))

-- what has owners still has them where more are added, and the bound rises
pub still-owned : (pairs more : List (Range × ℕ)) (bound next : ℕ) (ranges : List Range) → bound ≤ next → AreOwned pairs bound ranges → AreOwned (pairs ++ more) next ranges
still-owned pairs more bound next ranges up h = λ a held.
    let old = h a held in
    let below = old.2 in
    let low = least-low old.0 next (least_owner more a) (omega (arith, below, up)) in
    (low.0, least_owner-append pairs more a ∙ rw (old.1) (low.1), low.2)

-- ranges that are added have an owner
pub now-owned : (pairs : List (Range × ℕ)) (ranges : List Range) (owner next : ℕ) → owner < next → AreOwned (pairs ++ owned ranges owner) next ranges
now-owned pairs ranges owner next up = λ a held.
    let here : least_owner (owned ranges owner) a ≡ Some owner = of_list ranges owner a ∙ rw held refl in
    by_pairs a (least_owner pairs a) refl here
  where
    by_pairs : (a : ℕ) (found : Option ℕ) → least_owner pairs a ≡ found → least_owner (owned ranges owner) a ≡ Some owner → (k : ℕ) × (least_owner (pairs ++ owned ranges owner) a ≡ Some k) × (k < next)
    by_pairs a None e here = (owner, least_owner-append pairs (owned ranges owner) a ∙ rw (e, here) refl, up)
    by_pairs a (Some k) e here = (min k owner, least_owner-append pairs (owned ranges owner) a ∙ rw (e, here) refl, omega (arith, up))

-- a later owner of ranges that all have owners changes no least owner
pub passed-over : (pairs : List (Range × ℕ)) (ranges : List Range) (owner : ℕ) → AreOwned pairs owner ranges → (a : ℕ) → least_owner (pairs ++ owned ranges owner) a ≡ least_owner pairs a
passed-over pairs ranges owner h a = grind (arith, least_owner-append, of_list, least-none)

-- ranges that earlier owners own may be left out behind others
pub behind-owned : (pairs : List (Range × ℕ)) (front rest : List Range) (owner a : ℕ) → AreOwned pairs owner rest → least_owner (pairs ++ owned front owner) a ≡ least_owner (pairs ++ owned (front ++ rest) owner) a
behind-owned pairs front rest owner a h =
    let parts : pairs ++ owned (front ++ rest) owner ≡ (pairs ++ owned front owner) ++ owned rest owner =
    ap (λ (own : List (Range × ℕ)). pairs ++ own) (map-append (λ range. (range, owner)) front rest) ∙ sym (append_assoc pairs (owned front owner) (owned rest owner)) in
    sym (ap (λ (all : List (Range × ℕ)). least_owner all a) parts ∙ passed-over (pairs ++ owned front owner) rest owner (still-owned pairs (owned front owner) owner owner rest (omega arith) h) a)
