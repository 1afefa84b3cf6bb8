-- Each node of a unit's tree is the entry that is at its offset.
use Rattle.std.proofs.Common.{◌≡◌, ◌∙◌, ◌-◌, ℕ, ◌≤◌, Bool, true, false, cond, List, [], ◌∷◌, length, map, length-drop, length-take, take, drop, Option, Some, None, Result, Ok, Err, refl, sym, ap, subst, arith}
use Rattle.std.specs.Prelude.{All, IsSome, find, filter_map, option_map, ◌&&◌, ◌==◌}
use Rattle.std.specs.List.{AllByRecursion}
use Rattle.std.specs.Option.{option_map_or}
use Rattle.std.proofs.lemmas.Bool.{and_parts, eqb-true}
use Rattle.std.proofs.lemmas.Option.{same_Some}
use Rattle.dw_model.specs.Results.{◌>>=◌, or_fault}
use Rattle.dw_model.specs.Reading.{Place, items, AreItems}
use Rattle.dw_model.specs.Faults.{TreeFault, entry_fault, Bad}
use Rattle.dw_model.specs.Abbrev.{Declaration, abbreviations}
use Rattle.dw_model.specs.Entry.{Entry, entry_at}
use Rattle.dw_model.specs.Ranges.{Range}
use Rattle.dw_model.specs.Section.{Sections}
use Rattle.dw_model.specs.Unit.{DwarfUnit}
use Rattle.dw_model.specs.Root as root
use Rattle.dw_model.specs.Root.{place_in}
use Rattle.dw_model.specs.Tree.{Node, Reading, is_function, checked, next_node, nodes_below, nodes_from, tree, entry_ranges_in}
use Rattle.dw_model.proofs.StepLemmas.{bind_ok, ok_is}
use Rattle.dw_model.proofs.InstructionLemmas.{or_fault-ok}
use Rattle.dw_model.proofs.ItemsLemmas.{read_by}
use Rattle.dw_model.proofs.AdvanceLemmas.{past_none, nodes_advance, entry-onward}
use Rattle.dw_units.specs.View.{found_in}
use Rattle.dw_units.proofs.PlaceLemmas.{inside}
use Rattle.dw_frames.specs.declared.function.EntryId.{EntryId}
use Rattle.dw_frames.specs.Told.{told_of}
use Rattle.dw_frames.specs.Tree.{nodes_of, function_at, function_of, told_at}
use Rattle.dw_frames.specs.UnitIn.{UnitIn}
use Rattle.dw_forms.proofs.OntoLemmas.{Onto}
use Rattle.dw_frames.proofs.MoveLemmas.{entry-moves, onto-left}

module _ (s : Sections) (unit : DwarfUnit) where
  -- the entry of a node is at its offset
  abbrev pub Stands : Node → Type 0
  Stands node = found_in (root.entry s unit node.entry.offset) ≡ Some node.entry

  -- a place among the unit's entries
  record Among (p : Place) : Type 0 where
    from : unit.first_entry ≤ p.at
    here : p ≡ place_in s unit p.at

  among-on : (p q : Place) → Among p → Onto p q → Among q
  among-on p q a onto = grind (arith, onto-left)

  module _ (declarations : List Declaration) (declared : abbreviations s.abbrevs unit.debug_abbrev_offset ≡ Ok declarations) where
    stands-at : (p q : Place) (entry : Entry) (depth : ℕ) → Among p → entry_at unit.offset_size declarations p ≡ Ok (Some entry, q) → Stands (record { depth = depth; entry = entry })
    stands-at p q entry depth a e =
        let less = entry-onward unit.offset_size declarations p (Some entry, q) e in
        let left : length p.left ≡ length (drop p.at (take unit.end s.info)) = ap (λ (p : Place). length p.left) a.here in
        let at : entry.offset ≡ p.at = let moves = entry-moves unit.offset_size declarations p (Some entry, q) e in moves.offset entry refl in
        ap found_in (ap (root.entry s unit) at ∙ inside s unit p.at declarations a.from (omega (arith, less, left, length-drop p.at (take unit.end s.info), length-take unit.end s.info)) declared ∙ ap (entry_at unit.offset_size declarations) (sym a.here) ∙ e)

    abbrev ranges : Entry → Result (List Range) Bad
    ranges = entry_ranges_in s unit

    abbrev next : Reading → Result (Option (Option Node) × Reading) TreeFault
    next = next_node ranges unit.offset_size declarations

    -- what one step reads
    next-reads : (t r : Reading) (item : Option Node) → next t ≡ Ok (Some item, r)
        → (found : Option Entry × Place) × (entry_at unit.offset_size declarations t.place ≡ Ok found) × (item ≡ option_map (λ entry. record { depth = t.depth; entry = entry }) found.0) × (r.place ≡ found.1)
    unfolding next_node
    next-reads t r item e = grind (arith, past_none, bind_ok, ok_is, or_fault-ok, same_Some)

    stand-below : (all : List (Option Node)) (t u : Reading) → Among t.place → AreItems next t all u → AllByRecursion Stands (filter_map (λ node. node) all)
    stand-below [] t u a h = tt
    stand-below (item ∷ others) t u a h =
        let read = next-reads t h.0 item h.1 in
        let moves = entry-moves unit.offset_size declarations t.place read.0 read.1 in
        let rest = stand-below others h.0 u (among-on t.place h.0.place a (subst (Onto t.place) (sym read.3) moves.onto)) h.2 in
        by_found item read.0.0 read.0.1 read.1 read.2 rest
      where
        by_found : (item : Option Node) (found : Option Entry) (q : Place) → entry_at unit.offset_size declarations t.place ≡ Ok (found, q) → item ≡ option_map (λ entry. record { depth = t.depth; entry = entry }) found
            → AllByRecursion Stands (filter_map (λ node. node) others) → AllByRecursion Stands (filter_map (λ node. node) (item ∷ others))
        by_found item None q e is rest = rw is rest
        by_found item (Some entry) q e is rest = rw is (stands-at t.place q entry t.depth a e, rest)

    -- those below the first one
    stand-children : (children : Bool) (q : Place) (others : List Node) → Among q → cond children (nodes_below ranges unit.offset_size declarations q) (Ok []) ≡ Ok others → AllByRecursion Stands others
    stand-children false q others a e = grind (arith, ok_is)
    stand-children true q others a e =
        let start : Reading = record { place = q; depth = 1 } in
        let read = bind_ok (items (λ t. t.place.left) next start) (λ found. Ok (filter_map (λ node. node) found.0)) others e in
        let are = ((read_by next (λ t. t.place.left) (nodes_advance ranges unit.offset_size declarations)).read start read.0.1 read.0.0).0 read.1 in
        subst (AllByRecursion Stands) (ok_is (filter_map (λ node. node) read.0.0) others read.2) (stand-below read.0.0 start read.0.1 a are)

    stand-first : (p q : Place) (found : Option Entry) (nodes : List Node) → Among p → entry_at unit.offset_size declarations p ≡ Ok (found, q)
        → option_map_or (λ first. checked ranges 0 first >>= λ _. cond first.children (nodes_below ranges unit.offset_size declarations q) (Ok []) >>= λ others. Ok (record { depth = 0; entry = first } ∷ others)) found (Err entry_fault) ≡ Ok nodes → AllByRecursion Stands nodes
    stand-first p q None nodes a read e = absurd cc
    stand-first p q (Some first) nodes a read e =
        let moves = entry-moves unit.offset_size declarations p (Some first, q) read in
        grind (arith, bind_ok, ok_is, stands-at p q first 0 a read, stand-children first.children q, among-on p q a moves.onto)

    stand-from : (nodes : List Node) → nodes_from ranges unit.offset_size declarations (place_in s unit unit.first_entry) ≡ Ok nodes → AllByRecursion Stands nodes
    unfolding nodes_from
    stand-from nodes e =
        let first : Option Entry × Place → Result (List Node) TreeFault = λ found. option_map_or (λ first. checked ranges 0 first >>= λ _. cond first.children (nodes_below ranges unit.offset_size declarations found.1) (Ok []) >>= λ others. Ok (record { depth = 0; entry = first } ∷ others)) found.0 (Err entry_fault) in
        let found = bind_ok (or_fault entry_fault (entry_at unit.offset_size declarations (place_in s unit unit.first_entry))) first nodes e in
        stand-first (place_in s unit unit.first_entry) found.0.1 found.0.0 nodes (record { from = omega arith; here = refl }) (or_fault-ok entry_fault (entry_at unit.offset_size declarations (place_in s unit unit.first_entry)) found.0 found.1) found.2

  all-stand : (nodes : List Node) → tree s unit ≡ Ok nodes → AllByRecursion Stands nodes
  unfolding tree
  all-stand nodes e = grind (arith, bind_ok, stand-from, or_fault-ok)

-- what is found has what holds of all, and passes the test
found-has : {X : Type 0} (P : X → Type 0) (test : X → Bool) (xs : List X) (x : X) → AllByRecursion P xs → find test xs ≡ Some x → P x × (test x ≡ true)
found-has P test [] x all e = absurd cc
found-has P test (y ∷ xs) x all e = grind (arith, same_Some, found-has P test xs)

heads : {X : Type 0} (x y : X) (xs ys : List X) → ◌≡◌ {A = List X} (x ∷ xs) (y ∷ ys) → (x ≡ y) × (xs ≡ ys)
heads x y xs ys e = (cc, cc)

-- the function of an id among the nodes is at its offset
pub function-stands : (of : UnitIn) (id : EntryId) (node : Node) → tree of.sections of.unit ≡ Ok (nodes_of of.sections of.unit) → function_at of id ≡ Some node → function_of of id ≡ Some node.entry
function-stands of id node read e =
    grind (arith, found-has (Stands of.sections of.unit) (λ node. is_function node.entry && node.entry.offset == id.offset) (nodes_of of.sections of.unit) node (all-stand of.sections of.unit (nodes_of of.sections of.unit) read), and_parts, eqb-true)

-- what is told of it
pub told-there : (of : UnitIn) (id : EntryId) (node : Node) → function_of of id ≡ Some node.entry → told_at of id ≡ told_of of.sections of.unit node.entry
told-there of id node e = rw e refl

-- what is told of ids is told of their nodes
pub all-told : (of : UnitIn) (ids : List EntryId) (nodes : List Node) → tree of.sections of.unit ≡ Ok (nodes_of of.sections of.unit) → map (function_at of) ids ≡ map Some nodes → map (told_at of) ids ≡ map (λ (node : Node). told_of of.sections of.unit node.entry) nodes
all-told of [] [] read e = refl
all-told of [] (node ∷ nodes) read e = absurd cc
all-told of (id ∷ ids) [] read e = absurd cc
all-told of (id ∷ ids) (node ∷ nodes) read e =
    let parts = heads (function_at of id) (Some node) (map (function_at of) ids) (map Some nodes) e in
    rw (told-there of id node (function-stands of id node read parts.0), all-told of ids nodes read parts.1) refl

-- ids of nodes are ids of functions
pub all-named : (of : UnitIn) (ids : List EntryId) (nodes : List Node) → map (function_at of) ids ≡ map Some nodes → All (λ id. IsSome (function_at of id)) ids
all-named of [] nodes e k d within = absurd (omega (arith, within))
all-named of (id ∷ ids) [] e k d within = absurd cc
all-named of (id ∷ ids) (node ∷ nodes) e k d within =
    grind (arith, heads, all-named of ids nodes (heads (function_at of id) (Some node) (map (function_at of) ids) (map Some nodes) e).1 (k - 1) d)
