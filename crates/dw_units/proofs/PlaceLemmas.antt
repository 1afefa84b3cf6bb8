-- Entries at the places of a unit.
use Rattle.std.proofs.Common.{◌≡◌, ℕ, ◌+◌, ◌<◌, ◌≤◌, Bool, true, false, List, length, length-drop, take, drop, Option, Some, None, Ok, Err, refl, arith}
use Rattle.std.specs.Prelude.{nat_le, nat_lt, ◌||◌, ◌==◌}
use Rattle.std.proofs.lemmas.Bool.{le-ltb, le-leb, lt-leb, ltb-false}
use Rattle.std.proofs.lemmas.List.{drop_all}
use Rattle.std.proofs.lemmas.Option.{none-some}
use Rattle.dw_model.specs.Reading.{Place, past, start, bytes_at}
use Rattle.dw_model.specs.Faults.{Fault, ends_early}
use Rattle.dw_model.specs.Leb.{uleb_at}
use Rattle.dw_model.specs.Abbrev.{Declaration, abbreviations, declared}
use Rattle.dw_model.specs.Entry.{Attribute, Entry, attributes_at, entry_at}
use Rattle.dw_model.specs.Unit.{DwarfUnit}
use Rattle.dw_model.specs.Section.{Sections}
use Rattle.dw_model.specs.Root.{place_in, entry}
use Rattle.dw_model.proofs.StepLemmas.{bind_ok, ok_is, ok-err}
use Rattle.dw_model.proofs.ReadingLemmas.{bytes_at-took}
use Rattle.dw_model.specs.Answers.{Tells}
use Rattle.dw_model.proofs.AdvanceLemmas.{either}

-- an offset that isn't between the first entry and the end has none
pub outside : (s : Sections) (unit : DwarfUnit) (offset : ℕ) → (nat_lt offset unit.first_entry || nat_le unit.end offset) ≡ true → entry s unit offset ≡ Err ends_early
unfolding entry
outside s unit offset e = rw e refl

either-side : (first end offset : ℕ) → first ≡ end → (low : Bool) → nat_lt offset first ≡ low → (low || nat_le end offset) ≡ true
either-side first end offset e low f = grind (arith, ltb-false, le-leb)

-- a unit whose first entry would are at its end has none at all
pub outside-all : (s : Sections) (unit : DwarfUnit) (offset : ℕ) → unit.first_entry ≡ unit.end → entry s unit offset ≡ Err ends_early
outside-all s unit offset e = outside s unit offset (either-side unit.first_entry unit.end offset e (nat_lt offset unit.first_entry) refl)

-- between them, the entry is read by the unit's declarations
pub inside : (s : Sections) (unit : DwarfUnit) (offset : ℕ) (declarations : List Declaration) → unit.first_entry ≤ offset → offset < unit.end → abbreviations s.abbrevs unit.debug_abbrev_offset ≡ Ok declarations
    → entry s unit offset ≡ entry_at unit.offset_size declarations (place_in s unit offset)
unfolding entry
inside s unit offset declarations first within e = rw (le-ltb offset unit.first_entry first, lt-leb unit.end offset within, e) refl

-- an offset after all bytes has no entry
pub behind_all : (size : ℕ) (declarations : List Declaration) (bytes : List ℕ) (offset : ℕ) → length bytes ≤ offset → entry_at size declarations (record { at = offset; left = drop offset bytes }) ≡ Err ends_early
unfolding entry_at uleb_at
behind_all size declarations bytes offset past = rw (drop_all offset bytes past) refl

-- ---- a null entry

some_bytes : (at : ℕ) (left : List ℕ) (x : ℕ × Place) → uleb_at (record { at = at; left = left }) ≡ Ok x → 0 < length left
unfolding uleb_at
some_bytes at left x e = grind arith

null_is : (size : ℕ) (declarations : List Declaration) (p q : Place) → entry_at size declarations p ≡ Ok (None, q) → (code : ℕ) × (uleb_at p ≡ Ok (code, q))
unfolding entry_at
null_is size declarations p q e = grind (arith, bind_ok, either, ok_is, none-some)

pub null-code : (s : Sections) (unit : DwarfUnit) (offset : ℕ) (q : Place) → entry s unit offset ≡ Ok (None, q) → (code : ℕ) × (uleb_at (place_in s unit offset) ≡ Ok (code, q))
unfolding entry
null-code s unit offset q e = grind (arith, either, bind_ok, null_is)

-- where there is an entry, its code is there
pub entry-within : (s : Sections) (unit : DwarfUnit) (offset : ℕ) (x : Option Entry × Place) → entry s unit offset ≡ Ok x → offset < length (take unit.end s.info)
unfolding entry entry_at
entry-within s unit offset x e = grind (arith, either, bind_ok, some_bytes, length-drop)

from_start : (n : ℕ) (bytes : List ℕ) → ◌≡◌ {A = Place} (past n (start bytes)) (record { at = n; left = drop n bytes })
from_start n bytes = let e : 0 + n ≡ n = omega arith in rw e refl

-- the place after as many bytes as the offset says
pub there : (s : Sections) (unit : DwarfUnit) (offset : ℕ) (p q : Place) (bytes piece : List ℕ) → p ≡ start bytes → bytes ≡ take unit.end s.info → bytes_at offset p ≡ Some (piece, q) → q ≡ place_in s unit offset
there s unit offset p q bytes piece begins is e = grind (arith, bytes_at-took, from_start)

pub null-past : (s : Sections) (unit : DwarfUnit) (offset : ℕ) (p q r : Place) (code : ℕ) → p ≡ place_in s unit offset → uleb_at p ≡ Ok (code, q) → entry s unit offset ≡ Ok (None, r) → q ≡ r
null-past s unit offset p q r code here read e = grind (arith, null-code, ok_is)

pub null-read : (s : Sections) (unit : DwarfUnit) (offset : ℕ) (p r : Place) (told : Option Fault) → p ≡ place_in s unit offset → Tells told (uleb_at p) → entry s unit offset ≡ Ok (None, r) → ⊥
null-read s unit offset p r told here fault e = grind (arith, null-code, ok-err)

-- ---- an entry, of which only some parts were kept

pub read-entry : (size : ℕ) (declarations : List Declaration) (p q r : Place) (code : ℕ) (declaration : Declaration) (attributes : List Attribute) → uleb_at p ≡ Ok (code, q) → (code == 0) ≡ false → declared declarations code ≡ Some declaration
    → attributes_at size declaration.specifications q ≡ Ok (attributes, r) → entry_at size declarations p ≡ Ok (Some (record { offset = p.at; tag = declaration.tag; children = declaration.children; attributes = attributes }), r)
unfolding entry_at
read-entry size declarations p q r code declaration attributes e some found read = rw (e, some, found, read) refl
