-- What a unit's first entry has to be.
use Rattle.std.proofs.Common.{◌≡◌, ◌∙◌, ℕ, Bool, true, false, cond, List, Option, Some, None, Result, Ok, Err, refl, sym, ap, subst}
use Rattle.std.specs.Prelude.{MatchOption, IsOk, option_and_then, option_map, is_none, nat_lt, nat_le, ◌||◌, ◌&&◌, not}
use Rattle.std.specs.Result.{result_ok}
use Rattle.dw_model.specs.Results.{◌>>=◌, refuse_if}
use Rattle.dw_model.specs.Reading.{Place}
use Rattle.dw_model.specs.Faults.{Fault, Refusal, ends_early}
use Rattle.dw_model.specs.Faults as faults
use Rattle.dw_model.specs.Abbrev.{Declaration, abbreviations}
use Rattle.dw_model.specs.Entry.{Entry, entry_at}
use Rattle.dw_model.specs.Unit.{DwarfUnit, is_skipped}
use Rattle.dw_model.specs.Section.{Sections}
use Rattle.dw_model.specs.Root.{place_in, entry, root, has_root}
use Rattle.dw_model.specs.Text.{bases_in}
use Rattle.dw_bytes.specs.Width.{size_of}
use Rattle.dw_forms.specs.Tables.{bases_shown}
use Rattle.dw_units.specs.declared.header.Header.{Header}
use Rattle.dw_units.specs.declared.unit.Unit.{Unit as CodeUnit}
use Rattle.dw_units.specs.declared.entry.Entry.{Entry as CodeEntry}
use Rattle.dw_units.specs.Header.{header_shown}
use Rattle.dw_units.specs.Entry.{entry_shown, FindsEntry, IsFound}
use Rattle.dw_forms.specs.declared.run.Start.{Start}
use Rattle.dw_forms.specs.Store.{Read}
use Rattle.dw_units.specs.Unit.{unit_shown, HasEntries, IsOpened}
use Rattle.dw_units.proofs.PlaceLemmas.{outside-all}

-- a unit without entries before its end has no root
pub root-end : (s : Sections) (unit : DwarfUnit) → unit.first_entry ≡ unit.end → root s unit ≡ None
unfolding root
root-end s unit e =
    rw (outside-all s unit unit.first_entry e) refl

pub root-fault : (s : Sections) (unit : DwarfUnit) (fault : Fault) → entry s unit unit.first_entry ≡ Err fault → root s unit ≡ None
unfolding root
root-fault s unit fault e = rw e refl

pub root-found : (s : Sections) (unit : DwarfUnit) (found : Option Entry) (past : Place) → entry s unit unit.first_entry ≡ Ok (found, past) → root s unit ≡ found
unfolding root
root-found s unit found past e = rw e refl

by_declarations : (out : Bool) (read : Result (List Declaration) Fault) (fault : Fault) (then : List Declaration → Result (Option Entry × Place) Fault) → read ≡ Err fault → option_and_then (λ (found : Option Entry × Place). found.0) (result_ok (cond {A = Result (Option Entry × Place) Fault} out (Err ends_early) (read >>= then))) ≡ None
by_declarations true read fault then e = refl
by_declarations false read fault then e = rw e refl

-- a unit whose declarations can't be read has no root
pub root-undeclared : (s : Sections) (unit : DwarfUnit) (fault : Fault) → abbreviations s.abbrevs unit.debug_abbrev_offset ≡ Err fault → root s unit ≡ None
unfolding root entry
root-undeclared s unit fault e =
    by_declarations (nat_lt unit.first_entry unit.first_entry || nat_le unit.end unit.first_entry) (abbreviations s.abbrevs unit.debug_abbrev_offset) fault (λ declarations. entry_at unit.offset_size declarations (place_in s unit unit.first_entry)) e

-- ---- the test of a unit

pub rooted-passes : (s : Sections) (unit : DwarfUnit) (found : Entry) → root s unit ≡ Some found → has_root s unit ≡ Ok tt
rooted-passes s unit found e = passes (not (is_skipped unit.kind)) (root s unit) found e
  where
    passes : (kept : Bool) (root : Option Entry) (found : Entry) → root ≡ Some found → refuse_if (kept && is_none root) (faults.root unit.offset) ≡ Ok tt
    passes true root found e = rw e refl
    passes false root found e = refl

pub rootless-fails : (s : Sections) (unit : DwarfUnit) → is_skipped unit.kind ≡ false → root s unit ≡ None → has_root s unit ≡ Err (faults.root unit.offset)
rootless-fails s unit kept e = rw (kept, e) refl

-- ---- what an error tells

abbrev told_as : Option Fault → ℕ → Option Refusal
told_as told offset = option_map (λ (fault : Fault). faults.root offset) told

-- the entry, or the declarations, couldn't be read
pub fails-as : (s : Sections) (unit : DwarfUnit) (told : Option Fault) (refusal : Option Refusal) → refusal ≡ told_as told unit.offset → is_skipped unit.kind ≡ false → MatchOption told (Unit {0}) (λ fault. root s unit ≡ None) → MatchOption refusal (Unit {0}) (λ told. has_root s unit ≡ Err told)
fails-as s unit None refusal is kept none = rw is tt
fails-as s unit (Some fault) refusal is kept none = rw is (rootless-fails s unit kept none)

pub entry-told : (s : Sections) (unit : DwarfUnit) (told : Option Fault) → MatchOption told (Unit {0}) (λ fault. entry s unit unit.first_entry ≡ Err fault) → MatchOption told (Unit {0}) (λ fault. root s unit ≡ None)
entry-told s unit None e = tt
entry-told s unit (Some fault) e = root-fault s unit fault e

pub declarations-told : (s : Sections) (unit : DwarfUnit) (section : List ℕ) (told : Option Fault) → section ≡ s.abbrevs → MatchOption told (Unit {0}) (λ fault. abbreviations section unit.debug_abbrev_offset ≡ Err fault) → MatchOption told (Unit {0}) (λ fault. root s unit ≡ None)
declarations-told s unit section None same e = tt
declarations-told s unit section (Some fault) same e = root-undeclared s unit fault (rw (sym same) e)

-- ---- out of memory hides no table

pub hides-table : (s : Sections) (unit : DwarfUnit) (section : List ℕ) (told : Option Fault) (refusal : Option Refusal) → refusal ≡ told_as told unit.offset → is_skipped unit.kind ≡ false → section ≡ s.abbrevs
    → MatchOption told (IsOk (abbreviations section unit.debug_abbrev_offset)) (λ fault. Unit {0}) → MatchOption refusal ((is_skipped unit.kind ≡ false) × IsOk (abbreviations s.abbrevs unit.debug_abbrev_offset)) (λ told. Unit {0})
hides-table s unit section None refusal is kept same read = rw is (kept, let t = sym same in rw t read)
hides-table s unit section (Some fault) refusal is kept same read = rw is tt

pub has-table : (s : Sections) (unit : DwarfUnit) (section : List ℕ) (table : List Declaration) (refusal : Option Refusal) → is_skipped unit.kind ≡ false → section ≡ s.abbrevs → abbreviations section unit.debug_abbrev_offset ≡ Ok table
    → MatchOption refusal ((is_skipped unit.kind ≡ false) × IsOk (abbreviations s.abbrevs unit.debug_abbrev_offset)) (λ told. Unit {0})
has-table s unit section table None kept same read =
    let there : abbreviations s.abbrevs unit.debug_abbrev_offset ≡ Ok table = ap (λ (section : List ℕ). abbreviations section unit.debug_abbrev_offset) (sym same) ∙ read in
    (kept, rw there refl)
has-table s unit section table (Some told) kept same read = tt

-- ---- a unit that is opened

-- nothing is asked of the first entry of a skipped unit
pub unasked : (found : Option CodeEntry) (given : Result (Option Entry × Place) Fault) (skipped : Bool) → skipped ≡ true → skipped ≡ false → IsFound found given
unasked found given skipped e f = let no : true ≡ false = sym e ∙ f in absurd cc

pub found-first : (found : Option CodeEntry) (first : CodeEntry) (given : Result (Option Entry × Place) Fault) → FindsEntry (Ok found) given → found ≡ Some first → IsFound (Some first) given
found-first found first given h is =
    let here = subst (λ found. FindsEntry (Ok found) given) is h in
    (first, here.0, refl, here.1, here.2)

pub opened : (s : Sections) (read : Read) (header : Header) (unit : CodeUnit) (found : Option CodeEntry) (table : Option Start) → unit_shown unit ≡ header_shown header → bases_shown unit.bases ≡ bases_in (size_of header.width) (option_map entry_shown found) → unit.root ≡ found → unit.table ≡ table
    → root s (header_shown header) ≡ option_map entry_shown found → (is_skipped (header_shown header).kind ≡ false → IsFound found (entry s (header_shown header) header.first_entry)) → HasEntries s read (header_shown header) table → IsOpened s read unit
opened s read header unit found table same bases first placed is here h = record {
  root = ap (option_map entry_shown) first ∙ sym is ∙ ap (root s) (sym same);
  first = rw first (subst (λ (u : DwarfUnit). is_skipped u.kind ≡ false → IsFound found (entry s u u.first_entry)) (sym same) here);
  bases = bases ∙ ap (bases_in (size_of header.width)) (sym is) ∙ ap (λ (u : DwarfUnit). bases_in u.offset_size (root s u)) (sym same);
  table = rw placed (subst (λ u. HasEntries s read u table) (sym same) h);
}
