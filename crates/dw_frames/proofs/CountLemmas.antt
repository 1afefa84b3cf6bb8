-- How many functions of a unit have ranges.
use Rattle.std.proofs.Common.{◌≡◌, ℕ, ◌-◌, ◌≤◌, Bool, List, [], ◌∷◌, length, take, Option, Result, Ok, arith, length-drop, length-take}
use Rattle.std.specs.Prelude.{filter, filter_map}
use Rattle.std.proofs.lemmas.List.Sums.{count_by-le-length, length-filter}
use Rattle.dw_model.specs.Abbrev.{Declaration, abbreviations}
use Rattle.dw_model.specs.Entry.{Entry}
use Rattle.dw_model.specs.Faults.{Bad, entry_fault}
use Rattle.dw_model.specs.Ranges.{Range}
use Rattle.dw_model.specs.Reading.{Place, items, AreItems}
use Rattle.dw_model.specs.Results.{or_fault}
use Rattle.dw_model.specs.Root.{place_in}
use Rattle.dw_model.specs.Section.{Sections}
use Rattle.dw_model.specs.Tree.{Node, Reading, next_node, nodes_below, nodes_from, tree, entry_ranges_in}
use Rattle.dw_model.specs.Unit.{DwarfUnit}
use Rattle.dw_model.proofs.AdvanceLemmas.{entry-onward, nodes_advance}
use Rattle.dw_model.proofs.InstructionLemmas.{or_fault-ok}
use Rattle.dw_model.proofs.ItemsLemmas.{Advances, read_by}
use Rattle.dw_model.proofs.StepLemmas.{bind_ok, ok_is}

items-few : {S A E : Type 0} (left : S → List ℕ) (next : S → Result (Option A × S) E) → Advances left next → (all : List A) (s u : S) → AreItems next s all u → length all ≤ length (left s)
items-few left next advances [] s u h = omega arith
items-few left next advances (item ∷ all) s u h = grind (arith, items-few left next advances all h.0 u h.2)

filter_map-few : {X Y : Type 0} (f : X → Option Y) (xs : List X) → length (filter_map f xs) ≤ length xs
filter_map-few f [] = omega arith
filter_map-few {Y = Y} f (x ∷ xs) = grind (arith, filter_map-few f xs)

module _ (ranges : Entry → Result (List Range) Bad) (size : ℕ) (declarations : List Declaration) where
  below-few : (q : Place) (nodes : List Node) → nodes_below ranges size declarations q ≡ Ok nodes → length nodes ≤ length q.left
  below-few q nodes e =
      let from : Reading = record { place = q; depth = 1 } in
      let read = bind_ok (items (λ (s : Reading). s.place.left) (next_node ranges size declarations) from) (λ found. Ok (filter_map (λ node. node) found.0)) nodes e in
      let advances = nodes_advance ranges size declarations in
      let are = ((read_by (next_node ranges size declarations) (λ (s : Reading). s.place.left) advances).read from read.0.1 read.0.0).0 read.1 in
      grind (arith, items-few (λ (s : Reading). s.place.left) (next_node ranges size declarations) advances read.0.0 from read.0.1 are, filter_map-few (λ (node : Option Node). node) read.0.0, read.2, ok_is)

  -- each node takes a byte at least
  nodes-few : (p : Place) (nodes : List Node) → nodes_from ranges size declarations p ≡ Ok nodes → length nodes ≤ length p.left
  unfolding nodes_from
  nodes-few p nodes e = grind (arith, bind_ok, entry-onward, or_fault-ok, below-few, ok_is)

-- those of a unit that pass a test are no more than the bytes of its entries
pub unit-few : (s : Sections) (unit : DwarfUnit) (test : Node → Bool) (nodes : List Node) → tree s unit ≡ Ok nodes → length (filter test nodes) ≤ unit.end - unit.first_entry
unfolding tree
unit-few s unit test nodes e =
    let read = bind_ok (or_fault entry_fault (abbreviations s.abbrevs unit.debug_abbrev_offset)) (λ declarations. nodes_from (entry_ranges_in s unit) unit.offset_size declarations (place_in s unit unit.first_entry)) nodes e in
    let all = nodes-few (entry_ranges_in s unit) unit.offset_size read.0 (place_in s unit unit.first_entry) nodes read.2 in
    omega (arith, length-filter test nodes, count_by-le-length test nodes, all, length-drop unit.first_entry (take unit.end s.info), length-take unit.end s.info)
