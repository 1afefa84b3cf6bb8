-- The entries of a unit as a tree, and the functions at an address (DWARF 5, sections 2.3, 3.3 and
-- 7.5).
use Rattle.std.specs.Prelude.{ℕ, ◌+◌, ◌-◌, Bool, false, ◌&&◌, ◌||◌, List, [], ◌∷◌, length, reverse, Option, Some, None}
use Rattle.std.specs.Prelude.{Result, Ok, Err, find, filter_map, option_map, is_err, nat_lt, ◌==◌, if◌then◌else◌}
use Rattle.std.specs.List.{list_all}
use Rattle.std.specs.Option.{option_map_or}
use Rattle.std.specs.Result.{result_unwrap_or}
use Rattle.dw_model.specs.declared.dwarf.TheConstants.{DW_TAG_subprogram, DW_TAG_inlined_subroutine}
use Rattle.dw_model.specs.Results.{◌>>=◌, refuse_if, or_fault}
use Rattle.dw_model.specs.Reading.{Place, items, items_up_to}
use Rattle.dw_model.specs.Abbrev.{Declaration, abbreviations}
use Rattle.dw_model.specs.Entry.{Entry, entry_at}
use Rattle.dw_model.specs.Section.{Sections}
use Rattle.dw_model.specs.Unit.{DwarfUnit}
use Rattle.dw_model.specs.Root.{place_in, root, bases}
use Rattle.dw_model.specs.Ranges.{Range, ranges_of, covers}
use Rattle.dw_model.specs.Faults.{TreeFault, entry_fault, depth_fault, ranges_fault, Bad}

-- an entry in the tree, and below how many others it is; the unit's first entry has depth 0
pub record Node : Type 0 where
  pub depth : ℕ
  pub entry : Entry

abbrev pub is_subprogram : Entry → Bool
is_subprogram entry = entry.tag == DW_TAG_subprogram

abbrev pub is_inlined : Entry → Bool
is_inlined entry = entry.tag == DW_TAG_inlined_subroutine

-- a function, or the place where one was inlined
abbrev pub is_function : Entry → Bool
is_function entry = is_subprogram entry || is_inlined entry

-- ---- reading the tree

-- where reading is, and how many lists of children are open there
pub record Reading : Type 0 where
  pub place : Place
  pub depth : ℕ

abbrev pub most_depth : ℕ
most_depth = 512

-- an entry that can be used: it isn't too deep, and the ranges of a function can be read
abbrev pub checked : (Entry → Result (List Range) Bad) → ℕ → Entry → Result (Unit {0}) TreeFault
checked ranges depth entry = do
  _ ← refuse_if (nat_lt most_depth depth) depth_fault
  refuse_if (is_function entry && is_err (ranges entry)) ranges_fault

-- the depth of what follows an entry, or a null entry, which ends a list of children
abbrev pub depth_behind : ℕ → Option Entry → ℕ
depth_behind depth None = depth - 1
depth_behind depth (Some entry) = if entry.children then depth + 1 else depth

-- An entry or a null entry. The unit's end ends all lists; when the list below the unit's first
-- entry has ended, nothing more is read.
unfoldable pub next_node : (ranges : Entry → Result (List Range) Bad) → (size : ℕ) → List Declaration
    → Reading → Result (Option (Option Node) × Reading) TreeFault
next_node ranges size declarations s = if s.depth == 0 || length s.place.left == 0 then Ok (None, s) else (do
  found ← or_fault entry_fault (entry_at size declarations s.place)
  _ ← option_map_or (checked ranges s.depth) found.0 (Ok tt)
  Ok (
    Some (option_map (λ entry. record { depth = s.depth; entry = entry }) found.0),
    record { place = found.1; depth = depth_behind s.depth found.0 },
  ))

-- the entries below the first one, which has children
abbrev pub nodes_below : (ranges : Entry → Result (List Range) Bad) → (size : ℕ) → List Declaration
    → Place → Result (List Node) TreeFault
nodes_below ranges size declarations p =
    items (λ s. s.place.left) (next_node ranges size declarations) (record { place = p; depth = 1 }) >>= λ found.
    Ok (filter_map (λ node. node) found.0)

-- The first entry, and where it has children those below it.
unfoldable pub nodes_from : (ranges : Entry → Result (List Range) Bad) → (size : ℕ) → List Declaration
    → Place → Result (List Node) TreeFault
nodes_from ranges size declarations p = do
  found ← or_fault entry_fault (entry_at size declarations p)
  option_map_or (λ first. do
    _ ← checked ranges 0 first
    others ← (if first.children then nodes_below ranges size declarations found.1 else Ok [])
    Ok (record { depth = 0; entry = first } ∷ others)) found.0 (Err entry_fault)

-- the ranges of an entry of a unit
abbrev pub entry_ranges_in : Sections → DwarfUnit → Entry → Result (List Range) Bad
entry_ranges_in sections unit entry = ranges_of sections.tables (bases sections unit) (root sections unit) entry

-- The tree of a unit: its entries in order, each with its depth; or the first fault in that order.
unfoldable pub tree : Sections → DwarfUnit → Result (List Node) TreeFault
tree sections unit = do
  declarations ← or_fault entry_fault (abbreviations sections.abbrevs unit.debug_abbrev_offset)
  let ranges = entry_ranges_in sections unit
  nodes_from ranges unit.offset_size declarations (place_in sections unit unit.first_entry)

-- ---- functions at an address

-- A node lies inside another one before it where all between them, up to and with itself, are
-- deeper.
abbrev pub is_inside : List Node → Node → Bool
is_inside between outer = list_all (λ node. nat_lt outer.depth node.depth) between

-- the nearest function in which a node lies; `before` are the nodes before it, the nearest first,
-- and `between` those since then
unfoldable pub enclosing : List Node → List Node → Option Node
enclosing between [] = None
enclosing between (node ∷ before) =
    if is_function node.entry && is_inside between node then Some node else enclosing (node ∷ between) before

-- the first node that passes a test, by itself and the nodes before it, the nearest first
unfoldable pub find_node : (List Node → Node → Bool) → List Node → List Node → Option Node
find_node test before [] = None
find_node test before (node ∷ nodes) = if test before node then Some node else find_node test (node ∷ before) nodes

abbrev pub is_at : Option Node → ℕ → Bool
is_at None offset = false
is_at (Some node) offset = node.entry.offset == offset

-- the first inlined function that holds the address and lies directly in a function
unfoldable pub inlined_in : (Entry → Bool) → List Node → Node → Option Node
inlined_in holds nodes outer =
    find_node (λ before node. is_inlined node.entry && holds node.entry
    && is_at (enclosing (node ∷ []) before) outer.entry.offset) [] nodes

-- the next function inwards, and none where none holds the address
unfoldable pub next_inwards : (Entry → Bool) → List Node → Node → Result (Option Node × Node) (Unit {0})
next_inwards holds nodes outer =
    Ok (option_map_or (λ node. (Some node, node)) (inlined_in holds nodes outer) (None, outer))

-- The functions at an address, innermost first: from the first subprogram that holds it (own), step
-- by step inwards. There are no more steps than nodes, since each goes forward.
unfoldable pub chain_in : (Entry → Bool) → List Node → List Node
chain_in holds nodes =
    option_map_or
    (λ outermost. reverse (outermost ∷ inner (items_up_to (next_inwards holds nodes) (length nodes) outermost)))
    (find (λ node. is_subprogram node.entry && holds node.entry) nodes) []
  where
    inner : Result (List Node × Node) (Unit {0}) → List Node
    inner (Ok found) = found.0
    inner (Err e) = []

-- an entry's ranges hold the address
abbrev pub holds_address : Sections → DwarfUnit → ℕ → Entry → Bool
holds_address sections unit a entry = covers a (result_unwrap_or (entry_ranges_in sections unit entry) [])

abbrev pub chain : Sections → DwarfUnit → List Node → ℕ → List Node
chain sections unit nodes a = chain_in (holds_address sections unit a) nodes
