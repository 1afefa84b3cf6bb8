-- What a tree knows of the functions of its unit, and that it is the unit's.
use Rattle.std.specs.Prelude.{◌≡◌, ◌<◌, ◌≤◌, ◌+◌, ℕ, zero, suc, List, [], ◌∷◌, length, map, reverse, filter}
use Rattle.std.specs.Prelude.{find}
use Rattle.std.specs.Prelude.{Option, Some, None, Ok, cond, option_and_then, slice_get, ◌==◌, ◌&&◌, if◌then◌else◌}
use Rattle.std.specs.Option.{option_map_or}
use Rattle.std.specs.Result.{result_unwrap_or}
use Rattle.dw_model.specs.Entry.{Entry}
use Rattle.dw_model.specs.Section.{Sections}
use Rattle.dw_model.specs.Text.{Tables}
use Rattle.dw_model.specs.Unit.{DwarfUnit}
use Rattle.dw_model.specs.Unit as cut
use Rattle.dw_model.specs.Root as root
use Rattle.dw_model.specs.Tree.{Node, is_function, chain}
use Rattle.dw_model.specs.Tree as model
use Rattle.dw_units.specs.View.{found_in}
use Rattle.dw_ranges.specs.Claims.{AreCounted, owner_of}
use Rattle.dw_frames.specs.declared.function.EntryId.{EntryId}
use Rattle.dw_frames.specs.declared.chains.Chains.{Chains}
use Rattle.dw_frames.specs.Drafts.{inside, is_kept, outermost}
use Rattle.dw_frames.specs.Kept.{most_listed}
use Rattle.dw_frames.specs.Told.{Told, told_of, nothing}
use Rattle.dw_frames.specs.UnitIn.{UnitIn}

-- ---- what it finds

abbrev pub id_of : Chains → ℕ → EntryId
id_of chains offset = record { unit = chains.unit; offset = offset }

-- the functions at an address from a number on inwards, at most so many
unfoldable pub inwards : Tables → Chains → (a most : ℕ) → Option ℕ → List EntryId
inwards tables chains a zero number = []
inwards tables chains a (suc most) None = []
inwards tables chains a (suc most) (Some number) =
    option_map_or
    (λ offset. id_of chains offset
    ∷ inwards tables chains a most (owner_of tables chains.owners (inside number) a))
    (slice_get chains.functions.items number) []

-- the functions at an address, outermost first
abbrev pub chain_at : Tables → Chains → ℕ → List EntryId
chain_at tables chains a =
    inwards tables chains a (length chains.functions.items) (owner_of tables chains.owners outermost a)

-- ---- the definitions

-- the entries of a unit, where all can be read
abbrev pub nodes_of : Sections → DwarfUnit → List Node
nodes_of sections unit = result_unwrap_or (model.tree sections unit) []

-- the functions at an address, innermost first
abbrev pub chain_in : UnitIn → ℕ → List Node
chain_in of a = chain of.sections of.unit (nodes_of of.sections of.unit) a

-- the function of an id, among the nodes of a unit
abbrev pub function_at : UnitIn → EntryId → Option Node
function_at of id =
    if id.unit == of.index then find (λ node. is_function node.entry && node.entry.offset == id.offset)
    (nodes_of of.sections of.unit) else None

-- the function that is at the offset of an id in a unit, also where it is none of its nodes
abbrev pub function_of : UnitIn → EntryId → Option Entry
function_of of id =
    if id.unit == of.index then option_and_then (λ entry. cond (is_function entry) (Some entry) None)
    (found_in (root.entry of.sections of.unit id.offset)) else None

-- what is told of it
abbrev pub told_at : UnitIn → EntryId → Told
told_at of id = option_map_or (told_of of.sections of.unit) (function_of of id) nothing

-- the functions of a unit that have ranges
abbrev pub ranged_in : UnitIn → List Node
ranged_in of = filter (λ node. is_kept of.sections of.unit node.entry) (nodes_of of.sections of.unit)

-- The most ranges and lists that are kept of the functions of a unit: ranges of lists up to a
-- quarter of the unit's bytes, and a range or a list of each function that has ranges.
abbrev pub most_kept : UnitIn → ℕ
most_kept of = most_listed of.unit + length (ranged_in of)

-- chains find the functions of a unit at each address
abbrev pub FindsFunctions : UnitIn → Chains → Type 0
FindsFunctions of found =
    (a : ℕ) → map (function_at of) (reverse (chain_at of.sections.tables found a)) ≡ map Some (chain_in of a)

-- So many ranges and lists are enough: the functions at each address are found by them.
abbrev pub AreEnough : UnitIn → ℕ → Type 0
AreEnough of size = (found : Chains) × FindsFunctions of found × AreCounted found.owners size

-- Chains are those of a unit of the file: its entries can be read, the functions at each address
-- are found, and few ranges and lists are kept.
pub record IsTreeOf (of : UnitIn) (found : Chains) : Type 0 where
  pub within : found.unit < length (cut.units of.sections.info)
  pub read : model.tree of.sections of.unit ≡ Ok (nodes_of of.sections of.unit)
  pub chains : FindsFunctions of found
  pub few : found.owners.size ≤ most_kept of
