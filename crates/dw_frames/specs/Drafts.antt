-- What is kept of the functions of a unit while its entries are read.
use Rattle.std.specs.Prelude.{ℕ, ◌+◌, ◌-◌, Bool, cond, not, ◌&&◌, ◌==◌, List, [], ◌∷◌, ◌++◌, length, get_or}
use Rattle.std.specs.Prelude.{Option, Some, None}
use Rattle.std.specs.Result.{result_unwrap_or}
use Rattle.dw_model.specs.Entry.{Entry}
use Rattle.dw_model.specs.Section.{Sections}
use Rattle.dw_model.specs.Unit.{DwarfUnit}
use Rattle.dw_model.specs.Ranges.{Range}
use Rattle.dw_model.specs.Tree.{is_function, is_subprogram, entry_ranges_in}
use Rattle.dw_ranges.specs.Claims.{Claim, claims_in}
use Rattle.dw_ranges.specs.Owned.{owned}
use Rattle.dw_frames.specs.UnitIn.{UnitIn}

-- The groups in which functions claim ranges, by their numbers: that of all subprograms, that of
-- functions inlined in none that is kept, and that of those inlined directly in the function of a
-- number.
abbrev pub outermost : ℕ
outermost = 0

abbrev pub nowhere : ℕ
nowhere = 1

abbrev pub inside : ℕ → ℕ
inside number = number + 2

-- The unit; the offsets of the functions that have ranges, in order; their ranges; and the lists of
-- children that are open, the outermost first, each with the group of what is inlined there.
pub record Drafts : Type 0 where
  pub of : UnitIn
  pub functions : List ℕ
  pub claims : List Claim
  pub lists : List ℕ

abbrev pub no_drafts : UnitIn → Drafts
no_drafts of = record { of = of; functions = []; claims = []; lists = [] }

-- the group of what is inlined where the next entry lies
abbrev pub innermost : Drafts → ℕ
innermost drafts = get_or drafts.lists (length drafts.lists - 1) nowhere

-- the group in which the next entry claims ranges
abbrev pub group_of : Bool → Drafts → ℕ
group_of subprogram drafts = cond subprogram outermost (innermost drafts)

-- a list of children begins, where there is one
abbrev pub begun : Bool → ℕ → List ℕ → List ℕ
begun children group lists = cond children (lists ++ group ∷ []) lists

abbrev pub with_list : Bool → ℕ → Drafts → Drafts
with_list children group drafts =
    record {
      of = drafts.of;
      functions = drafts.functions;
      claims = drafts.claims;
      lists = begun children group drafts.lists;
    }

-- One more function, which claims ranges; and its children.
abbrev pub with_function : Entry → List Range → Drafts → Drafts
with_function entry ranges drafts = record {
  of = drafts.of;
  functions = drafts.functions ++ entry.offset ∷ [];
  claims = drafts.claims ++ claims_in (group_of (is_subprogram entry) drafts) (owned ranges (length drafts.functions));
  lists = begun entry.children (inside (length drafts.functions)) drafts.lists;
}

-- the lists but the last one
abbrev pub without_last : {X : Type 0} → List X → List X
without_last [] = []
without_last (x ∷ []) = []
without_last (x ∷ y ∷ xs) = x ∷ without_last (y ∷ xs)

abbrev pub without_list : Drafts → Drafts
without_list drafts =
    record { of = drafts.of; functions = drafts.functions; claims = drafts.claims; lists = without_last drafts.lists }

abbrev pub known_ranges : Sections → DwarfUnit → Entry → List Range
known_ranges sections unit entry = result_unwrap_or (entry_ranges_in sections unit entry) []

-- a function has no ranges
abbrev pub is_idle : Sections → DwarfUnit → Entry → Bool
is_idle sections unit entry = length (known_ranges sections unit entry) == 0

-- a function that has ranges
abbrev pub is_kept : Sections → DwarfUnit → Entry → Bool
is_kept sections unit entry = is_function entry && not (is_idle sections unit entry)

-- The drafts after a function: one without ranges isn't kept, and what lies in it lies in no
-- function that is.
abbrev pub behind_function : Sections → DwarfUnit → Entry → Drafts → Drafts
behind_function sections unit entry drafts =
    cond (is_idle sections unit entry) (with_list entry.children nowhere drafts)
    (with_function entry (known_ranges sections unit entry) drafts)

-- the drafts after an entry, or after a null entry, which ends a list of children
abbrev pub behind : Sections → DwarfUnit → Option Entry → Drafts → Drafts
behind sections unit None drafts = without_list drafts
behind sections unit (Some entry) drafts =
    cond (is_function entry) (behind_function sections unit entry drafts)
    (with_list entry.children (innermost drafts) drafts)
