-- Ranges that owners claim in groups, and who owns an address in a group.
use Rattle.std.specs.Prelude.{◌≡◌, ◌⊎◌, ◌≤◌, ◌*◌, ℕ, zero, suc, ◌+◌, List, [], ◌∷◌, ◌++◌}
use Rattle.std.specs.Prelude.{length, map, filter, Option, Some, ◌==◌}
use Rattle.dw_model.specs.Ranges.{Range}
use Rattle.dw_model.specs.Text.{Tables}
use Rattle.dw_index.specs.declared.segment.Segment.{Segment}
use Rattle.dw_index.specs.Owners.{least, least_owner}
use Rattle.dw_index.specs.Segments.{owner_at}
use Rattle.dw_ranges.specs.declared.held.HeldList.{HeldList}
use Rattle.dw_ranges.specs.declared.held.Listed.{Listed}
use Rattle.dw_ranges.specs.declared.held.Listed.TheVariants.{Named, Indexed}
use Rattle.dw_ranges.specs.declared.links.Grouped.{Grouped}
use Rattle.dw_ranges.specs.declared.range_list.RangeList.{RangeList}
use Rattle.dw_ranges.specs.Held.{listed}
use Rattle.dw_ranges.specs.ListIndex.{listed_from}
use Rattle.dw_ranges.specs.Owned.{owned}

-- a range with its owner, in a group
abbrev pub Claim : Type 0
Claim = Grouped (Range × ℕ)

-- the items of a group, in order
abbrev pub in_group : {T : Type 0} → ℕ → List (Grouped T) → List T
in_group group items = map (λ one. one.item) (filter (λ one. one.group == group) items)

-- ranges with their owners in a group
abbrev pub claims_in : ℕ → List (Range × ℕ) → List Claim
claims_in group pairs = map (λ pair. record { group = group; item = pair }) pairs

-- the same ranges, each in the group after its own
abbrev pub raised : List Claim → List Claim
raised claims = map (λ claim. record { group = suc claim.group; item = claim.item }) claims

-- the least owner in a group of the ranges that hold an address
abbrev pub owner_in : List Claim → (group a : ℕ) → Option ℕ
owner_in claims group a = least_owner (in_group group claims) a

-- The owners of addresses are those of before, and one that claims these ranges in a group.
abbrev pub Adds : (group : ℕ) → List Range → (owner : ℕ) → (old new : List Claim) → Type 0
Adds group ranges owner old new =
    (k a : ℕ) → owner_in new k a ≡ owner_in (old ++ claims_in group (owned ranges owner)) k a

-- the ranges of a list that is held by name, or by its index
abbrev pub held_ranges : Tables → Listed → List Range
held_ranges tables (Named list) = listed tables list
held_ranges tables (Indexed index base) = listed_from index.value base

-- those of a list that is held, with its owner
abbrev pub list_claims : Tables → HeldList → List (Range × ℕ)
list_claims tables held = owned (held_ranges tables held.list) held.owner

-- the ranges of lists that are held
unfoldable pub held_claims : Tables → List (Grouped HeldList) → List Claim
held_claims tables [] = []
held_claims tables (held ∷ lists) =
    claims_in held.group (list_claims tables held.item) ++ held_claims tables lists

-- ---- while they are gathered

-- the ranges that are kept, the lists that are held by name, and how many ranges of lists may still
-- be kept
pub record ClaimsState : Type 0 where
  pub kept : List Claim
  pub held : List (Grouped HeldList)
  pub room : ℕ

-- how many ranges are kept, and lists are held
abbrev pub size_of : ClaimsState → ℕ
size_of claims = length claims.kept + length claims.held

abbrev pub all_claims : Tables → ClaimsState → List Claim
all_claims tables claims = claims.kept ++ held_claims tables claims.held

-- An owner claims ranges, or those of their list, which is held.
abbrev pub AddsListed : Tables → (group : ℕ) → List Range → (owner : ℕ) → Option RangeList
    → (old new : ClaimsState) → Type 0
AddsListed tables group ranges owner list old new =
    Adds group ranges owner (all_claims tables old) (all_claims tables new)
    ⊎ ((one : RangeList) × (list ≡ Some one)
    × Adds group (listed tables one) owner (all_claims tables old) (all_claims tables new))

-- ---- when they are asked

-- ranges in groups, and how many segments the indexes of groups have
pub record LinkedState : Type 0 where
  pub claims : List Claim
  pub segments : ℕ

-- the index of the ranges in group 0, those in groups from 1 on, of which the first is 0 here, the
-- lists that are held by name, and how many ranges are kept and lists are held
pub record OwnersState : Type 0 where
  pub index : List Segment
  pub others : LinkedState
  pub held : List (Grouped HeldList)
  pub size : ℕ

-- the least owner in a group by the ranges that are kept
abbrev pub kept_owner : OwnersState → (group a : ℕ) → Option ℕ
kept_owner owners zero a = owner_at owners.index a
kept_owner owners (suc group) a = owner_in owners.others.claims group a

-- the least owner in a group of all ranges that hold an address
abbrev pub owner_of : Tables → OwnersState → (group a : ℕ) → Option ℕ
owner_of tables owners group a = least (kept_owner owners group a) (owner_in (held_claims tables owners.held) group a)

-- So many ranges and lists are all that are kept: each range gives two segments at most to the
-- index of its group.
pub record AreCounted (owners : OwnersState) (size : ℕ) : Type 0 where
  pub few : length owners.index + 2 * length owners.others.claims + 2 * length owners.held ≤ 2 * size
  pub indexes : owners.others.segments ≤ 2 * length owners.others.claims
