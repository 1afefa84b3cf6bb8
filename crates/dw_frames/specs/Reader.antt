-- Entries of a unit, read one after the other, of which the functions are kept.
use Rattle.std.specs.Prelude.{◌≡◌, ℕ, List, Option, Result, Ok, Err, MatchOption, length, is_err, true, false, ◌++◌}
use Rattle.std.specs.Prelude.{reverse, filter_map}
use Rattle.std.specs.Option.{option_map_or}
use Rattle.dw_model.specs.Faults.{ranges_fault}
use Rattle.dw_model.specs.Faults as faults
use Rattle.dw_model.specs.Results.{◌>>=◌}
use Rattle.dw_model.specs.Reading.{items}
use Rattle.dw_model.specs.Entry.{Entry}
use Rattle.dw_model.specs.Tree.{Node, checked, next_node, tree, entry_ranges_in}
use Rattle.dw_units.specs.Entries.{Walk}
use Rattle.dw_frames.specs.declared.fault.TreeFault.{TreeFault}
use Rattle.dw_frames.specs.Fault.{tree_fault}
use Rattle.dw_frames.specs.Placed.{Follows}
use Rattle.dw_frames.specs.Drafts.{Drafts, behind, behind_function}
use Rattle.dw_frames.specs.Known.{Same}
use Rattle.dw_frames.specs.UnitIn.{UnitIn}

-- what is asked of an entry at a depth; nothing of a null entry
abbrev pub can_be_used : UnitIn → ℕ → Option Entry → Result (Unit {0}) faults.TreeFault
can_be_used of depth found = option_map_or (checked (entry_ranges_in of.sections of.unit) depth) found (Ok tt)

-- An entry is kept where it is a function, or can't be used. Ranges that own no address may be left
-- out.
abbrev pub Keeps : UnitIn → Option Entry → Result (Unit {0}) TreeFault → Drafts → Drafts → Type 0
Keeps of found (Ok done) drafts new_drafts =
    (can_be_used of (length drafts.lists) found ≡ Ok tt) × Same (behind of.sections of.unit found drafts) new_drafts
Keeps of found (Err fault) drafts new_drafts =
    MatchOption (tree_fault fault) (Unit {0}) (λ told. can_be_used of (length drafts.lists) found ≡ Err told)

-- A function is kept, or its ranges can't be read.
abbrev pub AddsFunction : UnitIn → Entry → Result (Unit {0}) TreeFault → Drafts → Drafts → Type 0
AddsFunction of entry (Ok done) drafts new_drafts =
    (is_err (entry_ranges_in of.sections of.unit entry) ≡ false)
    × Same (behind_function of.sections of.unit entry drafts) new_drafts
AddsFunction of entry (Err fault) drafts new_drafts =
    MatchOption (tree_fault fault) (Unit {0})
    (λ told. (told ≡ ranges_fault) × (is_err (entry_ranges_in of.sections of.unit entry) ≡ true))

-- the nodes from a place on, at a depth
abbrev pub nodes_on : UnitIn → Walk → ℕ → Result (List Node) faults.TreeFault
nodes_on of walk depth =
    items (λ s. s.place.left) (next_node (entry_ranges_in of.sections of.unit) walk.offset_size walk.declarations)
    (record { place = walk.place; depth = depth }) >>= λ found.
    Ok (filter_map (λ node. node) found.0)

-- the drafts follow the nodes before and those that were read; or there is a fault
abbrev pub FollowsOn : UnitIn → List Node → Result (List Node) faults.TreeFault → Result (Unit {0}) TreeFault
    → Drafts → Type 0
FollowsOn of before nodes (Ok done) drafts =
    (found after : List Node) × (bound : ℕ) × (nodes ≡ Ok found) × (reverse after ≡ reverse before ++ found)
    × Follows of.sections of.unit after drafts bound
FollowsOn of before nodes (Err fault) drafts =
    MatchOption (tree_fault fault) (Unit {0}) (λ told. nodes ≡ Err told)

-- the drafts that were read into; or the fault
abbrev pub read_into : Result (Unit {0}) TreeFault → Drafts → Result Drafts TreeFault
read_into (Ok done) drafts = Ok drafts
read_into (Err fault) drafts = Err fault

-- the drafts follow all nodes of the tree; or it has a fault
abbrev pub FollowsAll : UnitIn → Result Drafts TreeFault → Type 0
FollowsAll of (Ok drafts) =
    (after : List Node) × (bound : ℕ) × (tree of.sections of.unit ≡ Ok (reverse after))
    × Follows of.sections of.unit after drafts bound
FollowsAll of (Err fault) =
    MatchOption (tree_fault fault) (Unit {0}) (λ told. tree of.sections of.unit ≡ Err told)
