-- Ranges that owners claim in groups.
use Rattle.std.proofs.Common.{◌≡◌, ℕ, suc, List, [], ◌∷◌, ◌++◌, map, reverse, Option, refl, ap, arith, append_assoc}
use Rattle.std.specs.List.{flat_map}
use Rattle.std.proofs.lemmas.Bool.{eq-eqb, ne_eqb}
use Rattle.std.proofs.lemmas.List.{append-nil, map-append, reverse-reverse}
use Rattle.std.proofs.lemmas.List.Concat.{flat_map-cons}
use Rattle.dw_model.specs.Ranges.{Range}
use Rattle.dw_model.specs.Text.{Tables}
use Rattle.dw_index.specs.declared.range.Range.{Range as CodeRange}
use Rattle.dw_index.specs.Owners.{least, least_owner}
use Rattle.dw_index.specs.Range.{pair_shown}
use Rattle.dw_index.specs.Segments.{owner_at}
use Rattle.dw_index.proofs.OwnerLemmas.{least-assoc, least-none, least_owner-append}
use Rattle.dw_ranges.specs.declared.held.HeldList.{HeldList}
use Rattle.dw_ranges.specs.declared.links.Grouped.{Grouped}
use Rattle.dw_ranges.specs.Claims.{Claim, Adds, OwnersState, claims_in, held_claims, in_group, list_claims, owner_in, owner_of, raised}
use Rattle.dw_ranges.specs.LinkedInside.{claims_linked}
use Rattle.dw_ranges.specs.Owned.{owned}
use Rattle.dw_ranges.proofs.GetLemmas.{map-reverse, reverse-cons}
use Rattle.dw_ranges.proofs.GroupLemmas.{all-elsewhere, all-here, group-append, group-reverse, same_or_apart}

-- ---- claims behind others

pub owner-append : (xs ys : List Claim) (k a : ℕ) → owner_in (xs ++ ys) k a ≡ least (owner_in xs k a) (owner_in ys k a)
owner-append xs ys k a = grind (arith, group-append, least_owner-append)

least-swap : (x y : Option ℕ) → least x y ≡ least y x
least-swap x y = grind arith

-- what is added to those that are kept is added to all
pub adds_all : (group : ℕ) (ranges : List Range) (owner : ℕ) (old new held : List Claim) → Adds group ranges owner old new → Adds group ranges owner (old ++ held) (new ++ held)
adds_all group ranges owner old new held h = grind (arith, owner-append, least-assoc, least-swap)

pub adds-same : (group : ℕ) (ranges : List Range) (owner : ℕ) (old new : List Claim) → new ≡ old ++ claims_in group (owned ranges owner) → Adds group ranges owner old new
adds-same group ranges owner old new e = λ k a. ap (λ (claims : List Claim). owner_in claims k a) e

pub adds_first : (ranges : List Range) (owner : ℕ) (pairs new : List (Range × ℕ)) (others : List Claim) → new ≡ pairs ++ owned ranges owner → Adds 0 ranges owner (claims_in 0 pairs ++ others) (claims_in 0 new ++ others)
adds_first ranges owner pairs new others e = grind (arith, map-append, owner-append, least-assoc, least-swap)

-- ---- claims in the next groups

raised-first : (claims : List Claim) → in_group 0 (raised claims) ≡ []
raised-first [] = grind arith
raised-first (claim ∷ claims) = grind (arith, (raised-first claims))

raised-next : (k : ℕ) (claims : List Claim) → in_group (suc k) (raised claims) ≡ in_group k claims
raised-next k [] = grind arith
raised-next k (claim ∷ claims) = grind (arith, (raised-next k claims))

raised-in : (group : ℕ) (pairs : List (Range × ℕ)) → raised (claims_in group pairs) ≡ claims_in (suc group) pairs
raised-in group [] = refl
raised-in group (pair ∷ pairs) = ap (λ (rest : List Claim). record { group = suc group; item = pair } ∷ rest) (raised-in group pairs)

pub adds_other : (group below : ℕ) (ranges : List Range) (owner : ℕ) (front others new : List Claim) → suc below ≡ group → new ≡ others ++ claims_in below (owned ranges owner) → Adds group ranges owner (front ++ raised others) (front ++ raised new)
adds_other group below ranges owner front others new next e = grind (arith, map-append, raised-in, adds-same, append_assoc)

-- ---- owners of all claims

module _ (pairs : List (Range × ℕ)) (owners : OwnersState) (index : (a : ℕ) → owner_at owners.index a ≡ least_owner pairs a) where
  abbrev kept : List Claim
  kept = claims_in 0 pairs ++ raised owners.others.claims

  pub all-owners : (tables : Tables) (group a : ℕ) → owner_of tables owners group a ≡ owner_in (kept ++ held_claims tables owners.held) group a
  all-owners tables group a = grind (arith, owner-append, group-append, raised-first, all-here, append-nil, all-elsewhere, raised-next)

-- ---- ranges that are linked

pub owner-reverse : (pairs : List (Range × ℕ)) (a : ℕ) → least_owner (reverse pairs) a ≡ least_owner pairs a
unfolding least_owner
owner-reverse [] a = refl
owner-reverse (pair ∷ pairs) a = grind (arith, reverse-cons, least_owner-append, least-none, least-swap, (owner-reverse pairs a))

pub in-linked : (k : ℕ) (links : List (Grouped (CodeRange × ℕ))) → in_group k (claims_linked links) ≡ map pair_shown (in_group k links)
in-linked k [] = refl
in-linked k (one ∷ links) = grind (arith, (in-linked k links))

-- those of a group, whichever comes first
pub ruleset linked_steps = (in-linked, owner-reverse, map-reverse, reverse-reverse, append_assoc, append-nil, least-assoc, least-none)

-- ---- lists that are held by name

pub held_push : (tables : Tables) (lists : List (Grouped HeldList)) (held : Grouped HeldList) → held_claims tables (lists ++ held ∷ []) ≡ held_claims tables lists ++ claims_in held.group (list_claims tables held.item)
unfolding held_claims
held_push tables [] held = grind (arith, append-nil)
held_push tables (list ∷ lists) held = grind (arith, append-nil, append_assoc, (held_push tables lists))

-- the ranges in a group are those of the lists in it
pub held-in-group : (tables : Tables) (k : ℕ) (lists : List (Grouped HeldList)) → in_group k (held_claims tables lists) ≡ flat_map (list_claims tables) (in_group k lists)
unfolding held_claims
held-in-group tables k [] = refl
held-in-group tables k (held ∷ lists) = grind (arith, group-append, all-here, all-elsewhere, ne_eqb, eq-eqb, flat_map-cons, same_or_apart, (held-in-group tables k lists))

-- one list after another
pub ruleset held_steps = (held-in-group, group-reverse, flat_map-cons, least_owner-append, least-assoc, least-none)
