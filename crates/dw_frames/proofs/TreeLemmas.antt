-- The tree of a unit: its first entry, and those below it.
use Rattle.std.proofs.Common.{◌≡◌, ℕ, Bool, cond, List, [], ◌∷◌, length, Option, Some, None, Result, Ok, Err, refl, ap, ◌∙◌, arith}
use Rattle.std.specs.Prelude.{MatchOption, option_map}
use Rattle.std.specs.Option.{option_map_or}
use Rattle.dw_model.specs.Answers.{Tells}
use Rattle.dw_model.specs.Faults.{Fault, TreeFault, entry_fault}
use Rattle.dw_model.specs.Results.{◌>>=◌, or_fault}
use Rattle.dw_model.specs.Reading.{Place}
use Rattle.dw_model.specs.Abbrev.{abbreviations}
use Rattle.dw_model.specs.Entry.{Entry, entry_at}
use Rattle.dw_model.specs.Root.{place_in}
use Rattle.dw_model.specs.Tree.{Node, checked, depth_behind, nodes_from, nodes_below, tree, entry_ranges_in}
use Rattle.dw_model.proofs.ItemsLemmas.{items-turn}
use Rattle.dw_model.proofs.AdvanceLemmas.{nodes_advance}
use Rattle.dw_index.specs.Owners.{least_owner}
use Rattle.dw_units.specs.Entries.{Walk, IsNext}
use Rattle.dw_units.specs.declared.entries.Next.{Next}
use Rattle.dw_units.specs.declared.entries.Next.TheVariants.{Null}
use Rattle.dw_frames.specs.declared.fault.TreeFault as frames
use Rattle.dw_frames.specs.Drafts.{Drafts, no_drafts, behind}
use Rattle.dw_frames.specs.Known.{Same}
use Rattle.dw_frames.specs.Placed.{placed, first, Follows}
use Rattle.dw_frames.specs.Reader.{can_be_used, nodes_on, read_into, FollowsOn, FollowsAll}
use Rattle.dw_frames.specs.UnitIn.{UnitIn}
use Rattle.dw_frames.proofs.KnownLemmas.{follows-same}
use Rattle.dw_frames.proofs.WalkLemmas.{next, state, behind-depth, next-ended, follows-entry}

pub found-some : (ranged : Bool) (next : Next) (found last : Option Entry) → IsNext ranged next found last → (next ≡ Null → ⊥) → (entry : Entry) × (found ≡ Some entry)
found-some ranged next found last is other = grind arith

-- before any entry
follows-none : (of : UnitIn) (bound : ℕ) → Follows of.sections of.unit [] (no_drafts of) bound
unfolding placed first least_owner
follows-none of bound = grind arith

module _ (of : UnitIn) (walk : Walk) (size : walk.offset_size ≡ of.unit.offset_size) (declared : abbreviations of.sections.abbrevs of.unit.debug_abbrev_offset ≡ Ok walk.declarations) (begins : walk.place ≡ place_in of.sections of.unit of.unit.first_entry) where
  -- the first entry, and what is below it
  abbrev from_first : Option Entry × Place → Result (List Node) TreeFault
  from_first found =
      option_map_or (λ first. checked (entry_ranges_in of.sections of.unit) 0 first >>= λ _. cond first.children (nodes_below (entry_ranges_in of.sections of.unit) walk.offset_size walk.declarations found.1) (Ok []) >>= λ others. Ok (record { depth = 0; entry = first } ∷ others)) found.0 (Err entry_fault)

  tree-is : tree of.sections of.unit ≡ (or_fault entry_fault (entry_at walk.offset_size walk.declarations walk.place) >>= from_first)
  unfolding tree nodes_from
  tree-is = rw (declared, ← size, ← begins) refl

  none-below : (p : Place) → nodes_on of (record { declarations = walk.declarations; offset_size = walk.offset_size; place = p; last = None }) 0 ≡ Ok []
  none-below p = search (arith, next-ended, items-turn, next, nodes_advance, state)

  children-below : (children : Bool) (q : Place) → cond children (nodes_below (entry_ranges_in of.sections of.unit) walk.offset_size walk.declarations q) (Ok []) ≡ nodes_on of (record { declarations = walk.declarations; offset_size = walk.offset_size; place = q; last = None }) (cond children 1 0)
  children-below children q = grind (arith, none-below)

  -- ---- as the code reads it

  pub root-unread : (told : Option Fault) → Tells told (entry_at walk.offset_size walk.declarations walk.place) → MatchOption (option_map (λ _. entry_fault) told) (Unit {0}) (λ told. tree of.sections of.unit ≡ Err told)
  root-unread told e = grind (arith, tree-is)

  pub root-null : (found : Option Entry) (q : Place) → entry_at walk.offset_size walk.declarations walk.place ≡ Ok (found, q) → found ≡ None → tree of.sections of.unit ≡ Err entry_fault
  root-null found q e none = tree-is ∙ rw (e, none) refl

  pub root-unused : (drafts : Drafts) (found : Option Entry) (q : Place) (told : Option TreeFault) → drafts ≡ no_drafts of → entry_at walk.offset_size walk.declarations walk.place ≡ Ok (found, q)
      → MatchOption told (Unit {0}) (λ told. can_be_used of (length drafts.lists) found ≡ Err told) → MatchOption told (Unit {0}) (λ told. tree of.sections of.unit ≡ Err told)
  root-unused drafts found q told is e h = grind (arith, tree-is)

  -- where the first entry was kept
  pub record Began (new_drafts : Drafts) (new : Walk) : Type 0 where
    pub entry : Entry
    pub nodes : tree of.sections of.unit ≡ (nodes_on of new (length new_drafts.lists) >>= λ others. Ok (record { depth = 0; entry = entry } ∷ others))
    pub follows : Follows of.sections of.unit (record { depth = 0; entry = entry } ∷ []) new_drafts new.place.at

  pub began : (drafts new_drafts : Drafts) (found : Option Entry) (entry : Entry) (new : Walk) → drafts ≡ no_drafts of → new.declarations ≡ walk.declarations → new.offset_size ≡ walk.offset_size → entry_at walk.offset_size walk.declarations walk.place ≡ Ok (found, new.place) → found ≡ Some entry
      → can_be_used of (length drafts.lists) found ≡ Ok tt → Same (behind of.sections of.unit found drafts) new_drafts → Began new_drafts new
  began drafts new_drafts found entry new is kept sized e some used same =
      let read : entry_at walk.offset_size walk.declarations walk.place ≡ Ok (Some entry, new.place) = rw some at e in
      let fits : can_be_used of 0 (Some entry) ≡ Ok tt = rw (some, is) at used in
      let after : Same (behind of.sections of.unit (Some entry) (no_drafts of)) new_drafts = rw (some, is) at same in
      let depth : length new_drafts.lists ≡ depth_behind 0 (Some entry) = ap (λ (lists : List ℕ). length lists) after.lists ∙ behind-depth of (Some entry) (no_drafts of) in
      record {
        entry = entry;
        nodes = tree-is ∙ rw (read, fits, kept, sized, depth) (ap (λ (nodes : Result (List Node) TreeFault). nodes >>= λ others. Ok (record { depth = 0; entry = entry } ∷ others)) (children-below entry.children new.place));
        follows = follows-same of.sections of.unit (record { depth = 0; entry = entry } ∷ []) (behind of.sections of.unit (Some entry) (no_drafts of)) new_drafts new.place.at after (follows-entry of [] (no_drafts of) walk.offset_size walk.declarations walk.place (Some entry, new.place) read (follows-none of walk.place.at));
      }

  -- what was read below the first entry, or the fault there
  pub below-read : (new_drafts last : Drafts) (new : Walk) (result : Result (Unit {0}) frames.TreeFault) (b : Began new_drafts new)
      → FollowsOn of (record { depth = 0; entry = b.entry } ∷ []) (nodes_on of new (length new_drafts.lists)) result last → FollowsAll of (read_into result last)
  below-read new_drafts last new result b h = grind arith
