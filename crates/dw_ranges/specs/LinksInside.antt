-- What linked items are seen as, and how they are linked.
use Rattle.std.specs.Prelude.{◌≡◌, ℕ, suc, cond, List, [], ◌∷◌, map, reverse, get_or, slice_get, take}
use Rattle.std.specs.Prelude.{Option, Some, None, option_map, ◌==◌}
use Rattle.std.specs.Option.{option_or, option_map_or}
use Rattle.dw_ranges.specs.Claims.{in_group}
use Rattle.dw_ranges.specs.declared.links.Grouped.{Grouped}
use Rattle.dw_ranges.specs.declared.links.Link.{Link}

abbrev pub shown : {T : Type 0} → List (Link T) → List (Grouped T)
shown links = map (λ link. link.one) links

-- the place of the last item in a group
unfoldable pub last_of : {T : Type 0} → ℕ → List (Grouped T) → Option ℕ
last_of number [] = None
last_of number (one ∷ items) =
    option_or (option_map suc (last_of number items)) (cond (one.group == number) (Some 0) None)

-- what is noted of a group
abbrev pub noted : ℕ → List (Option ℕ) → Option ℕ
noted number lasts = get_or lasts number None

-- Each link leads to the one before it in its group.
abbrev pub AreLinked : {T : Type 0} → List (Link T) → Type 0
AreLinked {T} links = (place : ℕ) (link : Link T) → slice_get links place ≡ Some link
    → link.before ≡ last_of link.one.group (take place (shown links))

-- What is noted of each group is where its last item is.
abbrev pub AreLasts : {T : Type 0} → List (Option ℕ) → List (Grouped T) → Type 0
AreLasts lasts items = (number : ℕ) → noted number lasts ≡ last_of number items

-- ---- the items of a group, from one on and back

-- the items up to a place, or none
abbrev pub up_to : {T : Type 0} → Option ℕ → List (Grouped T) → List (Grouped T)
up_to next items = take (option_map_or suc next 0) items

-- those of them in a group, from the last one on
abbrev pub members_to : {T : Type 0} → ℕ → Option ℕ → List (Grouped T) → List T
members_to group next items = reverse (in_group group (up_to next items))

-- at the place is an item of the group
abbrev pub IsNext : {T : Type 0} → ℕ → Option ℕ → List (Grouped T) → Type 0
IsNext group next items = next ≡ last_of group (up_to next items)
