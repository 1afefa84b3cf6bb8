-- Items that are linked by their groups.
use Rattle.std.proofs.Common.{None, ◌≡◌, ℕ, suc, ◌<◌, List, [], ◌∷◌, ◌++◌, length, take, take-take, set, Option, Some, refl, sym, arith}
use Rattle.std.specs.Prelude.{get_or, slice_get}
use Rattle.std.proofs.lemmas.List.{length-map, map_push, reverse-append, take-append-le, take_all, get_or-set_same, get_or-set_other}
use Rattle.std.proofs.lemmas.Bool.{eq-eqb, eqb-true}
use Rattle.std.proofs.lemmas.Option.{slice_get_read, slice_get_within}
use Rattle.dw_ranges.specs.declared.links.Grouped.{Grouped}
use Rattle.dw_ranges.specs.declared.links.Link.{Link}
use Rattle.dw_ranges.specs.Claims.{in_group}
use Rattle.dw_ranges.specs.LinksInside.{AreLinked, AreLasts, IsNext, last_of, members_to, shown, up_to}
use Rattle.dw_ranges.proofs.GetLemmas.{get-mapped, get-pushed}
use Rattle.dw_ranges.proofs.GroupLemmas.{IsLast, get-of-take, last-is, last-push, up-to-last}

-- ---- from an item to the one before it in its group

-- what is before an item is up to any place as far
up-to-before : {T : Type 0} (k place : ℕ) (items : List (Grouped T)) (before : Option ℕ) → before ≡ last_of k (take place items) → up_to before (take place items) ≡ up_to before items
up-to-before k place items None e = refl
up-to-before k place items (Some q) e =
    let last = last-is k (take place items) q (sym e) in
    let within = (get-of-take place q items last.one last.there).1 in
    take-take (suc q) place items (omega (arith, within))

module _ {T : Type 0} (links : List (Link T)) (linked : AreLinked links) (k place : ℕ) (next : Option ℕ) (is : next ≡ Some place) (here : IsNext k next (shown links)) where
  last : IsLast k place (take (suc place) (shown links))
  last = last-is k (take (suc place) (shown links)) place (sym (rw is at here))

  found : (slice_get (shown links) place ≡ Some last.one) × (place < suc place) × (take place (take (suc place) (shown links)) ≡ take place (shown links))
  found = get-of-take (suc place) place (shown links) last.one last.there

  pub link-within : place < length links
  link-within = grind (arith, slice_get_within, length-map, found)

  module _ (link : Link T) (read : link ≡ get_or links place link) where
    there : slice_get links place ≡ Some link
    there = slice_get_read links (length links) place link refl link-within read

    same : link.one ≡ last.one
    same = grind (arith, (get-mapped (λ (link : Link T). link.one) links place link there), found)

    before-is : link.before ≡ last_of k (take place (shown links))
    before-is = grind (arith, (linked place link there), same, last.in_it)

    before : IsNext k link.before (take place (shown links)) × (in_group k (up_to link.before (take place (shown links))) ≡ in_group k (take place (shown links)))
    before = up-to-last k (take place (shown links)) link.before before-is

    pub next-before : IsNext k link.before (shown links)
    next-before = rw (← up-to-before k place (shown links) link.before before-is) before.0

    pub members-on : members_to k next (shown links) ≡ link.one.item ∷ members_to k link.before (shown links)
    members-on = rw is (grind (arith, last.behind, found, before, same, (up-to-before k place (shown links) link.before before-is), reverse-append))

-- ---- one more link

pub links-push : {T : Type 0} (links : List (Link T)) (link : Link T) → AreLinked links → link.before ≡ last_of link.one.group (shown links) → AreLinked (links ++ link ∷ [])
links-push links link linked is place x e = grind (arith, get-pushed, slice_get_within, length-map, map_push, take-append-le, take_all)

pub lasts-push : {T : Type 0} (lasts : List (Option ℕ)) (items : List (Grouped T)) (one : Grouped T) → AreLasts lasts items → one.group < length lasts → AreLasts (set lasts one.group (Some (length items))) (items ++ one ∷ [])
lasts-push lasts items one are within number = grind (arith, last-push, eqb-true, get_or-set_same, get_or-set_other, eq-eqb)
