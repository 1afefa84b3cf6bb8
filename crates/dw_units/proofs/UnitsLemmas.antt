-- The unit at a place of those that were read.
use Rattle.std.proofs.Common.{◌≡◌, ◌∙◌, ℕ, zero, suc, ◌<◌, ◌≤◌, List, [], ◌∷◌, length, map, Option, Some, Result, Ok, refl, sym, ap, subst, arith}
use Rattle.std.specs.Prelude.{option_map, slice_get, slice_index_or}
use Rattle.std.specs.List.{AllByRecursion}
use Rattle.std.specs.Result.{result_unwrap_or}
use Rattle.std.proofs.lemmas.Option.{get_or_from_slice_get, same_Some, slice_get_read, slice_get-map}
use Rattle.std.proofs.lemmas.List.{length-map}
use Rattle.dw_model.specs.Faults.{Refusal}
use Rattle.dw_model.specs.Section.{Sections}
use Rattle.dw_model.specs.Unit.{DwarfUnit, cut}
use Rattle.dw_model.specs.Unit as model
use Rattle.dw_model.specs.Abbrev.{Declaration}
use Rattle.dw_model.proofs.StepLemmas.{ok_is}
use Rattle.dw_units.specs.declared.unit.Unit.{Unit as CodeUnit}
use Rattle.dw_forms.specs.declared.run.Start.{Start}
use Rattle.dw_forms.specs.Store.{Read, table_from}
use Rattle.dw_units.specs.Unit.{unit_shown, HasEntries, IsOpened}
use Rattle.dw_units.specs.UnitAt.{absent, unit_at, HasEntriesBy}

opened-at : (s : Sections) (read : Read) (units : List CodeUnit) (i : ℕ) (unit : CodeUnit) → AllByRecursion (IsOpened s read) units → slice_get units i ≡ Some unit → IsOpened s read unit
opened-at s read [] i unit h e = absurd cc
opened-at s read (first ∷ units) zero unit h e = subst (IsOpened s read) (same_Some first unit e) h.0
opened-at s read (first ∷ units) (suc i) unit h e = opened-at s read units i unit h.1 e

unit-at : (info : List ℕ) (units : List CodeUnit) (i : ℕ) (unit : CodeUnit) → cut info ≡ Ok (map unit_shown units) → i < length (model.units info) → unit ≡ slice_index_or units i unit → (slice_get units i ≡ Some unit) × (slice_get (model.units info) i ≡ Some (unit_shown unit))
unit-at info units i unit whole within e = grind (arith, length-map, slice_get_read, slice_get-map)

-- what is known of it, in the words of the sections that the units are seen as
pub unit-in : (s seen : Sections) (read : Read) (units : List CodeUnit) (i : ℕ) (unit : CodeUnit) → s ≡ seen → cut s.info ≡ Ok (map unit_shown units) → AllByRecursion (IsOpened s read) units → i < length (model.units seen.info) → unit ≡ slice_index_or units i unit
    → (slice_get (model.units seen.info) i ≡ Some (unit_shown unit)) × IsOpened seen read unit
unit-in s seen read units i unit same whole opened within e =
    let at = unit-at s.info units i unit whole (subst (λ (s : Sections). i < length (model.units s.info)) (sym same) within) e in
    (ap (λ (s : Sections). slice_get (model.units s.info) i) (sym same) ∙ at.1, subst (λ s. IsOpened s read unit) same (opened-at s read units i unit opened at.0))

-- ---- how many declarations a unit has

unit-there : (units : List CodeUnit) (i : ℕ) → i < length units → (unit : CodeUnit) × (slice_get units i ≡ Some unit)
unit-there [] i h = absurd (omega (arith, h))
unit-there (first ∷ units) zero h = (first, refl)
unit-there (first ∷ units) (suc i) h = unit-there units i (omega (arith, h))

table-counted : (s : Sections) (read : Read) (unit : DwarfUnit) (table : Option Start) (n : ℕ) (declarations : List Declaration) → read.section ≡ s.abbrevs → HasEntries s read unit table → HasEntriesBy s unit declarations → ((start : Start) → length (table_from read start) ≤ n) → length declarations ≤ n
table-counted s read unit table n declarations same has by each = grind (arith, ok_is)

pub tables-counted : (s seen : Sections) (read : Read) (units : List CodeUnit) (n i : ℕ) (declarations : List Declaration) → s ≡ seen → read.section ≡ s.abbrevs → cut s.info ≡ Ok (map unit_shown units) → AllByRecursion (IsOpened s read) units → ((start : Start) → length (table_from read start) ≤ n)
    → i < length (model.units seen.info) → HasEntriesBy seen (unit_at seen i) declarations → length declarations ≤ n
tables-counted s seen read units n i declarations same section whole opened each within by =
    let listed : model.units s.info ≡ map unit_shown units = ap (λ (r : Result (List DwarfUnit) Refusal). result_unwrap_or r []) whole in
    let size : length (model.units s.info) ≡ length units = ap (λ (us : List DwarfUnit). length us) listed ∙ length-map units unit_shown in
    let here : i < length (model.units s.info) = subst (λ (s : Sections). i < length (model.units s.info)) (sym same) within in
    let there = unit-there units i (omega (arith, here, size)) in
    let found : slice_get (model.units s.info) i ≡ Some (unit_shown there.0) = ap (λ (us : List DwarfUnit). slice_get us i) listed ∙ slice_get-map unit_shown units i ∙ ap (option_map unit_shown) there.1 in
    let unit : unit_at s i ≡ unit_shown there.0 = get_or_from_slice_get (model.units s.info) i (unit_shown there.0) absent found in
    let its : HasEntriesBy s (unit_shown there.0) declarations = subst (λ (unit : DwarfUnit). HasEntriesBy s unit declarations) unit (subst (λ (s : Sections). HasEntriesBy s (unit_at s i) declarations) (sym same) by) in
    table-counted s read (unit_shown there.0) there.0.table n declarations section (opened-at s read units i there.0 opened there.1).table its each
