-- A tree that was built of what was kept of a unit's functions is the unit's.
use Rattle.std.proofs.Common.{◌≡◌, ◌⊎◌, ℕ, zero, suc, ◌+◌, ◌<◌, ◌≤◌, Bool, true, false, List, [], ◌∷◌, length, map, reverse, Option, Some, None, Ok, refl, sym, ap, ◌∙◌, arith}
use Rattle.std.specs.Prelude.{option_map, slice_get, filter, find, ◌==◌, ◌&&◌}
use Rattle.std.proofs.lemmas.List.{length-append, length-map}
use Rattle.std.proofs.lemmas.List.Elements.{filter-append}
use Rattle.std.proofs.lemmas.List.Folds.{find-append}
use Rattle.std.proofs.lemmas.Bool.{and_parts, and_left, and_right, or_parts, eq-eqb, ne_eqb, eqb-true}
use Rattle.std.proofs.lemmas.Option.{same_Some, slice_get-map}
use Rattle.dw_model.specs.Entry.{Entry}
use Rattle.dw_model.specs.Ranges.{Range, covers}
use Rattle.dw_model.specs.Tree.{Node, is_function, is_subprogram, is_inlined, enclosing, chain, chain_in, holds_address}
use Rattle.dw_model.specs.Tree as model
use Rattle.dw_model.specs.Unit as cut
use Rattle.dw_ranges.specs.Claims.{owner_in, owner_of}
use Rattle.dw_frames.specs.declared.chains.Chains.{Chains}
use Rattle.dw_frames.specs.Drafts.{Drafts, inside, outermost, is_kept}
use Rattle.dw_frames.specs.Kept.{most_listed}
use Rattle.dw_frames.specs.Placed.{Placed, placed, offset_of, Falls, Follows}
use Rattle.dw_frames.specs.Tree.{id_of, inwards, chain_at, function_at, most_kept, nodes_of, IsTreeOf}
use Rattle.dw_frames.specs.UnitIn.{UnitIn}
use Rattle.dw_ranges.proofs.GetLemmas.{get-mapped, get-pushed, map-reverse, reverse-cons}
use Rattle.dw_frames.proofs.ChainLemmas.{IsIdle, Found, climb, chain-climbs}

-- ---- the node of an offset

-- the node is one of those
abbrev Among : Node → List Node → Type 0
Among node [] = ⊥
Among node (other ∷ before) = (other ≡ node) ⊎ Among node before

placed-among : (kept : Entry → Bool) (before : List Node) (k : ℕ) (p : Placed) → slice_get (placed kept before) k ≡ Some p → Among p.0 before × (kept p.0.entry ≡ true)
unfolding placed
placed-among kept [] k p e = absurd cc
placed-among kept (node ∷ before) k p e = grind (arith, get-pushed, placed-among kept before k p)

-- the test of a node by its offset
abbrev at_offset : ℕ → Node → Bool
at_offset offset node = is_function node.entry && node.entry.offset == offset

none-at-offset : (offset bound : ℕ) (before : List Node) → Falls bound before → bound ≤ offset → find (at_offset offset) (reverse before) ≡ None
none-at-offset offset bound [] f h = refl
none-at-offset offset bound (node ∷ before) f h =
    grind (arith, and_right, ne_eqb, reverse-cons, find-append, none-at-offset offset node.entry.offset before f.1)

node-at-offset : (bound : ℕ) (before : List Node) (node : Node) → Falls bound before → Among node before → is_function node.entry ≡ true → (node.entry.offset < bound) × (find (at_offset node.entry.offset) (reverse before) ≡ Some node)
node-at-offset bound [] node f among is = absurd among
node-at-offset bound (other ∷ before) node f among is =
    grind (arith, eq-eqb, reverse-cons, find-append, none-at-offset, node-at-offset other.entry.offset before node f.1)

-- as many functions are placed as are kept
count-placed : (kept : Entry → Bool) (before : List Node) → length (placed kept before) ≡ length (filter (λ node. kept node.entry) (reverse before))
unfolding placed
count-placed kept [] = refl
count-placed kept (node ∷ before) =
    grind (arith, reverse-cons, filter-append, length-append, count-placed kept before)

-- ---- what isn't kept holds no address

idle-holds : (ranges : List Range) (a : ℕ) → (length ranges == 0) ≡ true → covers a ranges ≡ false
idle-holds [] a e = refl
idle-holds (range ∷ ranges) a e = let no : suc (length ranges) ≡ 0 = eqb-true (suc (length ranges)) 0 e in absurd (omega (arith, no))

module _ (of : UnitIn) (after : List Node) (drafts : Drafts) (bound : ℕ) (found : Chains)
    (whole : model.tree of.sections of.unit ≡ Ok (reverse after)) (follows : Follows of.sections of.unit after drafts bound) (unit : found.unit ≡ of.index) (within : of.index < length (cut.units of.sections.info)) (kept : found.functions.items ≡ drafts.functions) (owners : (group a : ℕ) → owner_of of.sections.tables found.owners group a ≡ owner_in drafts.claims group a)
    (room : found.owners.size ≤ most_listed of.unit + length drafts.functions) where
  abbrev keep : Entry → Bool
  keep = is_kept of.sections of.unit

  nodes-are : nodes_of of.sections of.unit ≡ reverse after
  nodes-are = rw whole refl

  offsets-are : found.functions.items ≡ map offset_of (placed keep after)
  offsets-are = kept ∙ follows.functions

  size : length found.functions.items ≡ length (placed keep after)
  size = ap (λ (offsets : List ℕ). length offsets) offsets-are ∙ length-map (placed keep after) offset_of

  id-of-number : (k offset : ℕ) (p : Placed) → slice_get found.functions.items k ≡ Some offset → slice_get (placed keep after) k ≡ Some p → function_at of (id_of found offset) ≡ Some p.0
  id-of-number k offset p f e =
      let among = placed-among keep after k p e in
      grind (arith, same_Some, offsets-are, get-mapped offset_of (placed keep after) k p e, among.0, among.1, and_parts, node-at-offset bound after p.0 follows.falls among.0, eq-eqb, nodes-are)

  -- ---- the chain

  module _ (a : ℕ) where
    abbrev holds : Entry → Bool
    holds = holds_address of.sections of.unit a

    idle : IsIdle keep holds
    idle entry e = grind (arith, or_parts, and_left, idle-holds, and_right)

    -- the number of the first function further inwards
    abbrev inner : ℕ → Option ℕ
    inner k = owner_of of.sections.tables found.owners (inside k) a

    steps : Found keep holds idle after (owner_of of.sections.tables found.owners outermost a) inner
    steps = grind arith

    there : (k : ℕ) → slice_get found.functions.items k ≡ option_map offset_of (slice_get (placed keep after) k)
    there k = rw offsets-are (slice_get-map offset_of (placed keep after) k)

    climbs-same : (most : ℕ) (number : Option ℕ) → map (function_at of) (inwards of.sections.tables found a most number) ≡ map Some (climb keep holds idle after (owner_of of.sections.tables found.owners outermost a) inner steps most number)
    unfolding inwards climb
    climbs-same zero number = refl
    climbs-same (suc most) None = refl
    climbs-same (suc most) (Some k) = grind (arith, there k, id-of-number, climbs-same most (inner k))

    chain-same : map (function_at of) (reverse (chain_at of.sections.tables found a)) ≡ map Some (chain of.sections of.unit (nodes_of of.sections of.unit) a)
    chain-same =
        map-reverse (function_at of) (chain_at of.sections.tables found a)
        ∙ ap (λ (nodes : List (Option Node)). reverse nodes) (climbs-same (length found.functions.items) (owner_of of.sections.tables found.owners outermost a) ∙ ap (λ (n : ℕ). map Some (climb keep holds idle after (owner_of of.sections.tables found.owners outermost a) inner steps n (owner_of of.sections.tables found.owners outermost a))) size)
        ∙ sym (map-reverse Some (climb keep holds idle after (owner_of of.sections.tables found.owners outermost a) inner steps (length (placed keep after)) (owner_of of.sections.tables found.owners outermost a)))
        ∙ ap (map Some) (sym (chain-climbs keep holds idle after (owner_of of.sections.tables found.owners outermost a) inner steps))
        ∙ ap (λ (nodes : List Node). map Some (chain_in holds nodes)) (sym nodes-are)

  few-kept : found.owners.size ≤ most_kept of
  few-kept = grind (arith, length-map, count-placed, nodes-are)

  pub is-tree : IsTreeOf of found
  is-tree = record { within = rw unit within; read = whole ∙ ap Ok (sym nodes-are); chains = chain-same; few = few-kept }
