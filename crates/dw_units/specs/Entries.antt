-- What is told of the entries of a unit, one after the other.
use Rattle.std.specs.Prelude.{◌≡◌, ℕ, Bool, true, false, List, Option, Some, None, Result, Ok, Err, option_and_then}
use Rattle.std.specs.Option.{option_map_or}
use Rattle.std.specs.Result.{result_ok}
use Rattle.dw_model.specs.Reading.{Place}
use Rattle.dw_model.specs.Leb.{uleb_at}
use Rattle.dw_model.specs.Answers.{Tells}
use Rattle.dw_model.specs.Faults.{Fault}
use Rattle.dw_model.specs.Abbrev.{Declaration, abbreviations, declared}
use Rattle.dw_model.specs.Section.{Sections}
use Rattle.dw_model.specs.Unit.{DwarfUnit, is_skipped}
use Rattle.dw_model.specs.Root.{place_in}
use Rattle.dw_model.specs.Entry.{Entry}
use Rattle.dw_model.specs.Tree.{is_function}
use Rattle.dw_forms.specs.declared.fault.FormFault.{FormFault}
use Rattle.dw_forms.specs.Fault.{form_fault}
use Rattle.dw_forms.specs.Ranged.{may_have_ranges, names_ranges}
use Rattle.dw_units.specs.declared.entries.Next.{Next}
use Rattle.dw_units.specs.declared.entries.Next.TheVariants.{Null, Function, Unranged, Passed}

-- the declarations of a unit, how many bytes its offsets have, the place of its next entry, and the
-- last function that may have ranges
pub record Walk : Type 0 where
  pub declarations : List Declaration
  pub offset_size : ℕ
  pub place : Place
  pub last : Option Entry

-- the walk over a unit's entries begins at its first one; just the skipped units have none
abbrev pub WalksFrom : Sections → DwarfUnit → Option Walk → Type 0
WalksFrom sections unit None = is_skipped unit.kind ≡ true
WalksFrom sections unit (Some walk) =
    (abbreviations sections.abbrevs unit.debug_abbrev_offset ≡ Ok walk.declarations)
    × (walk.place ≡ place_in sections unit unit.first_entry)
    × (is_skipped unit.kind ≡ false)
    × (walk.offset_size ≡ unit.offset_size)
    × (walk.last ≡ None)

-- what the declaration says of the entry at a place; nothing where none is declared
abbrev pub declaration_at : List Declaration → Place → Option Declaration
declaration_at declarations p = option_and_then (λ code. declared declarations code.0) (result_ok (uleb_at p))

-- the entry at a place may have ranges, as its declaration says
abbrev pub ranged_at : List Declaration → Place → Bool
ranged_at declarations p =
    option_map_or (λ declaration. may_have_ranges declaration.specifications) (declaration_at declarations p) false

-- It is a null entry; or a function that may have ranges, as `ranged` says, and then it is the last
-- of these; or a function that names none, or an entry that is no function, of which only the
-- children are told.
abbrev pub IsNext : (ranged : Bool) → Next → (found last : Option Entry) → Type 0
IsNext ranged Null found last = found ≡ None
IsNext ranged Function found last =
    (entry : Entry) × (found ≡ Some entry) × (last ≡ Some entry) × (is_function entry ≡ true) × (ranged ≡ true)
IsNext ranged (Unranged children) found last =
    (entry : Entry) × (found ≡ Some entry) × (is_function entry ≡ true) × (ranged ≡ false)
    × (names_ranges entry ≡ false) × (children ≡ entry.children)
IsNext ranged (Passed children) found last = (entry : Entry) × (found ≡ Some entry) × (is_function entry ≡ false)
    × (children ≡ entry.children)

-- The last function that may have ranges stays, where the next entry is none.
abbrev pub KeepsLast : Next → (old new : Option Entry) → Type 0
KeepsLast Function old new = Unit {0}
KeepsLast Null old new = new ≡ old
KeepsLast (Unranged children) old new = new ≡ old
KeepsLast (Passed children) old new = new ≡ old

-- The next entry is read as the definition has it, or its fault is told.
abbrev pub ReadsNext : (ranged : Bool) → Result Next FormFault → Result (Option Entry × Place) Fault → Place
    → Option Entry → Type 0
ReadsNext ranged (Ok next) given new last =
    (found : Option Entry) × (given ≡ Ok (found, new)) × IsNext ranged next found last
ReadsNext ranged (Err fault) given new last = Tells (form_fault fault) given
