-- Where something is read at an offset, the offset lies in its section.
use Rattle.std.proofs.Common.{◌≡◌, inl, inr, ℕ, ◌+◌, ◌<◌, ◌≤◌, Bool, true, false, cond, List, [], ◌∷◌, length, take, drop, Option, Some, None, Result, Ok, Err, refl, subst, sym, ap, arith, length-append, length-drop, length-take}
use Rattle.std.specs.Prelude.{ok_or, option_map, nat_lt, nat_le, not, ◌||◌, ◌==◌}
use Rattle.std.specs.List.{cons_option, AllByRecursion}
use Rattle.std.proofs.Math.Nat.{min-le_right}
use Rattle.std.proofs.lemmas.Option.{same_Some}
use Rattle.std.proofs.lemmas.Bool.{cases_lt, lt-leb, leb-false, ltb-false, or_parts}
use Rattle.dw_model.specs.declared.dwarf.TheConstants.{DWARF_VERSION, ADDRESS_SIZE}
use Rattle.dw_model.specs.Results.{◌>>=◌, refuse_if}
use Rattle.dw_model.specs.Reading.{Place, start, Between, number_at, bytes_at, text_at, items, AreItems}
use Rattle.dw_model.specs.InitialLength.{Width, offset_size, length_size, initial_length}
use Rattle.dw_model.specs.Faults.{Fault, ends_early, Refusal, unit_header, address_size, bad}
use Rattle.dw_model.specs.Abbrev.{Declaration, abbreviations}
use Rattle.dw_model.specs.Entry.{Entry, entry_at}
use Rattle.dw_model.specs.Text.{Tables, Bases, number_in, text_in}
use Rattle.dw_model.specs.Ranges.{RangeEntry, next_range_entry, range_entries}
use Rattle.dw_model.specs.LineHeader.{LineHeader, length_of, table_behind, line_header}
use Rattle.dw_model.specs.Section.{Sections}
use Rattle.dw_model.specs.Unit.{DwarfUnit, Test, Kind, Extent, skipped_unit, dwo_id_size, is_skipped, kind_of, kept_unit, unit_of, Content, AreContents, extent_at, IsUnitOf, AreUnits, StandsIn}
use Rattle.dw_model.specs.Root.{place_in, entry}
use Rattle.dw_model.proofs.StepLemmas.{bind_ok, ok_or-ok, ok_is, read_of}
use Rattle.dw_model.proofs.InitialLemmas.{initial-left}
use Rattle.dw_model.proofs.ReadingLemmas.{between-length}
use Rattle.dw_model.proofs.NumberLemmas.{number_at-spans, bytes_at-between}
use Rattle.dw_model.proofs.TextLemmas.{text_at-spans}
use Rattle.dw_model.proofs.CutLaws.{piece-long, some-length}
use Rattle.dw_model.proofs.AdvanceLemmas.{either, entry-onward, number-onward, range_entries_advance}
use Rattle.dw_model.proofs.ItemsLemmas.{read_by}

-- what is left after an offset is there only where the offset lies in the section
left_behind : (section : List ℕ) (offset n : ℕ) → 0 < n → n ≤ length (drop offset section) → offset + n ≤ length section
left_behind section offset n some h = omega (arith, some, h, length-drop offset section)

mapped : {A B : Type 0} (f : A → B) (o : Option A) (y : B) → option_map f o ≡ Some y → (x : A) × (o ≡ Some x) × (f x ≡ y)
mapped f (Some x) y e = (x, refl, same_Some (f x) y e)
mapped f None y e = absurd cc

pub number-bound : (section : List ℕ) (offset n x : ℕ) → 0 < n → number_in section offset n ≡ Some x → offset + n ≤ length section
number-bound section offset n x some e =
    let found = mapped (λ (found : ℕ × Place). found.0) (number_at n (start (drop offset section))) x e in
    let s = number_at-spans n (start (drop offset section)) found.0 found.1 in
    left_behind section offset n some (omega (arith, between-length (start (drop offset section)) found.0.1 s.0 s.1, s.2.0))

pub text-bound : (section : List ℕ) (offset : ℕ) (t : List ℕ) → text_in section offset ≡ Some t → offset + length t < length section
text-bound section offset t e =
    let p = start (drop offset section) in
    let found = mapped (λ (found : List ℕ × Place). found.0) (text_at p) t e in
    let s = text_at-spans p found.0 found.1 in
    let size : length s.0 ≡ length found.0.0 + 1 = rw (s.2.0) (omega (arith, length-append found.0.0 (0 ∷ []))) in
    let same : length found.0.0 ≡ length t = ap (λ (t : List ℕ). length t) found.2 in
    let within = left_behind section offset (length t + 1) (omega arith) (omega (arith, between-length p found.0.1 s.0 s.1, size, same)) in
    omega (arith, within)

pub abbreviations-bound : (section : List ℕ) (offset : ℕ) (x : List Declaration) → abbreviations section offset ≡ Ok x → offset ≤ length section
unfolding abbreviations
abbreviations-bound section offset x e = elim (cases_lt (length section) offset) [
  | inl past ↦ (let none : Err ends_early ≡ Ok x = rw (lt-leb offset (length section) past) at e in absurd cc)
  | inr within ↦ within
]

pub line_header-bound : (tables : Tables) (bases : Bases) (section : List ℕ) (offset : ℕ) (x : LineHeader) → line_header tables bases section offset ≡ Ok x → offset + 4 ≤ length section
unfolding line_header
line_header-bound tables bases section offset x e =
    let p : Place = record { at = offset; left = drop offset section } in
    let b = bind_ok (ok_or (initial_length p) bad) (λ unit_length. length_of unit_length.0 >>= λ len. ok_or (bytes_at len.0 unit_length.1) bad >>= λ table. table_behind tables bases len.1 (start table.0)) x e in
    left_behind section offset 4 (omega arith) (omega (arith, initial-left p b.0 (ok_or-ok (initial_length p) bad b.0 b.1)))

-- the first entry of a list has a code
first_code : (p : Place) (x : Option RangeEntry × Place) → next_range_entry p ≡ Ok x → 1 ≤ length p.left
unfolding next_range_entry
first_code p x e = grind (arith, bind_ok, number-onward)

some_code : (all : List RangeEntry) (p q : Place) → AreItems next_range_entry p all q → 1 ≤ length p.left
some_code [] p q h = first_code p (None, q) h
some_code (item ∷ all) p q h = first_code p (Some item, h.0) h.1

pub range_list-bound : (section : List ℕ) (offset : ℕ) (x : List RangeEntry) → range_entries (record { at = offset; left = drop offset section }) ≡ Ok x → offset < length section
range_list-bound section offset x e =
    let p : Place = record { at = offset; left = drop offset section } in
    let read = read_of (items (λ q. q.left) next_range_entry p) x e in
    let are = ((read_by next_range_entry (λ q. q.left) range_entries_advance).read p read.0 x).0 read.1 in
    let within = left_behind section offset 1 (omega arith) (some_code x p read.0 are) in
    omega (arith, within)

-- ---- entries

entry_within : (sections : Sections) (unit : DwarfUnit) (offset : ℕ) (read : Result (Option Entry × Place) Fault) (outside : Bool) → (nat_lt offset unit.first_entry || nat_le unit.end offset) ≡ outside → (x : Option Entry × Place) → cond outside (Err ends_early) read ≡ Ok x → (unit.first_entry ≤ offset) × (offset < unit.end) × (read ≡ Ok x)
entry_within sections unit offset read true o x e = absurd cc
entry_within sections unit offset read false o x e =
    let h = or_parts (nat_lt offset unit.first_entry) (nat_le unit.end offset) o in
    (ltb-false offset unit.first_entry h.0, leb-false unit.end offset h.1, e)

pub entry-bound : (sections : Sections) (unit : DwarfUnit) (offset : ℕ) (x : Option Entry × Place) → entry sections unit offset ≡ Ok x → (unit.first_entry ≤ offset) × (offset < unit.end) × (offset < length sections.info)
unfolding entry
entry-bound sections unit offset x e =
    let read : Result (Option Entry × Place) Fault = abbreviations sections.abbrevs unit.debug_abbrev_offset >>= λ declarations. entry_at unit.offset_size declarations (place_in sections unit offset) in
    let h = entry_within sections unit offset read (nat_lt offset unit.first_entry || nat_le unit.end offset) refl x e in
    let b = bind_ok (abbreviations sections.abbrevs unit.debug_abbrev_offset) (λ declarations. entry_at unit.offset_size declarations (place_in sections unit offset)) x h.2 in
    let some = entry-onward unit.offset_size b.0 (place_in sections unit offset) x b.2 in
    let taken = length-take unit.end sections.info in
    (h.0, h.1, omega (arith, some, length-drop offset (take unit.end sections.info), taken, min-le_right unit.end (length sections.info)))

-- ---- units

-- a unit with its first entry, or its end where it has none, in its bytes
pub record Within (extent : Extent) (unit : DwarfUnit) : Type 0 where
  pub offset : unit.offset ≡ extent.offset
  pub end : unit.end ≡ extent.end
  pub first_entry : unit.first_entry ≤ extent.end
  pub behind : extent.base ≤ unit.first_entry

skipped-within : (extent : Extent) (size version : ℕ) → extent.base ≤ extent.end → Within extent (skipped_unit extent size version)
skipped-within extent size version h = record { offset = refl; end = refl; first_entry = omega arith; behind = h }

-- what was passed and what is left stay the same together
conserved : (p q : Place) (piece : List ℕ) → Between p piece q → q.at + length q.left ≡ p.at + length p.left
conserved p q piece b = omega (arith, b.1, between-length p q piece b)

number-conserves : {E : Type 0} (n : ℕ) (p : Place) (e : E) (x : ℕ × Place) → ok_or (number_at n p) e ≡ Ok x → x.1.at + length x.1.left ≡ p.at + length p.left
number-conserves n p e x h = grind (arith, number_at-spans, ok_or-ok, conserved)

bytes-conserves : {E : Type 0} (n : ℕ) (p : Place) (e : E) (x : List ℕ × Place) → ok_or (bytes_at n p) e ≡ Ok x → x.1.at + length x.1.left ≡ p.at + length p.left
bytes-conserves n p e x h =
    let s = bytes_at-between n p x (ok_or-ok (bytes_at n p) e x h) in
    conserved p x.1 x.0 s.1

kept-within : (extent : Extent) (size : ℕ) (kind : Kind) (p : Place) (unit : DwarfUnit) → extent.base + (p.at + length p.left) ≡ extent.end → kept_unit extent size kind p ≡ Ok unit → Within extent unit
unfolding kept_unit
kept-within extent size kind p unit ends e =
    let unit_in : ℕ × Place → ℕ × Place → List ℕ × Place → Result DwarfUnit Refusal = λ address offset dwo_id. refuse_if (not (address.0 == ADDRESS_SIZE)) (address_size extent.offset) >>= λ _. Ok (record { offset = extent.offset; end = extent.end; version = DWARF_VERSION; kind = kind; offset_size = size; debug_abbrev_offset = offset.0; first_entry = extent.base + dwo_id.1.at }) in
    let a = bind_ok (ok_or (number_at 1 p) (unit_header extent.offset)) (λ address. ok_or (number_at size address.1) (unit_header extent.offset) >>= λ offset. ok_or (bytes_at (dwo_id_size kind) offset.1) (unit_header extent.offset) >>= unit_in address offset) unit e in
    let o = bind_ok (ok_or (number_at size a.0.1) (unit_header extent.offset)) (λ offset. ok_or (bytes_at (dwo_id_size kind) offset.1) (unit_header extent.offset) >>= unit_in a.0 offset) unit a.2 in
    let d = bind_ok (ok_or (bytes_at (dwo_id_size kind) o.0.1) (unit_header extent.offset)) (unit_in a.0 o.0) unit o.2 in
    let t = bind_ok (refuse_if (not (a.0.0 == ADDRESS_SIZE)) (address_size extent.offset)) (λ _. Ok (record { offset = extent.offset; end = extent.end; version = DWARF_VERSION; kind = kind; offset_size = size; debug_abbrev_offset = o.0.0; first_entry = extent.base + d.0.1.at })) unit d.2 in
    let made : DwarfUnit = record { offset = extent.offset; end = extent.end; version = DWARF_VERSION; kind = kind; offset_size = size; debug_abbrev_offset = o.0.0; first_entry = extent.base + d.0.1.at } in
    let first : extent.base + d.0.1.at ≤ extent.end = omega (arith, ends, number-conserves 1 p (unit_header extent.offset) a.0 a.1, number-conserves size a.0.1 (unit_header extent.offset) o.0 o.1, bytes-conserves (dwo_id_size kind) o.0.1 (unit_header extent.offset) d.0 d.1) in
    subst (Within extent) (ok_is made unit t.2) (record { offset = refl; end = refl; first_entry = first; behind = omega arith })

typed-within : (extent : Extent) (size version : ℕ) (type : ℕ × Place) (unit : DwarfUnit) → extent.base ≤ extent.end → extent.base + (type.1.at + length type.1.left) ≡ extent.end → cond (is_skipped (kind_of type.0)) (Ok (skipped_unit extent size version)) (kept_unit extent size (kind_of type.0) type.1) ≡ Ok unit → Within extent unit
typed-within extent size version type unit base ends e =
    elim (either (is_skipped (kind_of type.0)) (Ok (skipped_unit extent size version)) (kept_unit extent size (kind_of type.0) type.1) (Ok unit) e) [
      | inl skips ↦ subst (Within extent) (ok_is (skipped_unit extent size version) unit skips) (skipped-within extent size version base)
      | inr keeps ↦ kept-within extent size (kind_of type.0) type.1 unit ends keeps
    ]

pub unit_of-within : (extent : Extent) (size : ℕ) (bytes : List ℕ) (unit : DwarfUnit) → extent.base + length bytes ≡ extent.end → unit_of extent size bytes ≡ Ok unit → Within extent unit
unfolding unit_of
unit_of-within extent size bytes unit ends e =
    let typed : ℕ × Place → ℕ × Place → Result DwarfUnit Refusal = λ version type. cond (is_skipped (kind_of type.0)) (Ok (skipped_unit extent size version.0)) (kept_unit extent size (kind_of type.0) type.1) in
    let rest : ℕ × Place → Result DwarfUnit Refusal = λ version. ok_or (number_at 1 version.1) (unit_header extent.offset) >>= typed version in
    let v = bind_ok (ok_or (number_at 2 (start bytes)) (unit_header extent.offset)) (λ version. cond {A = Result DwarfUnit Refusal} (not (version.0 == DWARF_VERSION)) (Ok (skipped_unit extent size version.0)) (rest version)) unit e in
    let base : extent.base ≤ extent.end = omega (arith, ends) in
    let passed = number-conserves 2 (start bytes) (unit_header extent.offset) v.0 v.1 in
    elim (either (not (v.0.0 == DWARF_VERSION)) (Ok (skipped_unit extent size v.0.0)) (rest v.0) (Ok unit) v.2) [
      | inl skips ↦ subst (Within extent) (ok_is (skipped_unit extent size v.0.0) unit skips) (skipped-within extent size v.0.0 base)
      | inr more ↦ (
          let t = bind_ok (ok_or (number_at 1 v.0.1) (unit_header extent.offset)) (typed v.0) unit more in
          typed-within extent size v.0.0 t.0 unit base (omega (arith, ends, passed, number-conserves 1 v.0.1 (unit_header extent.offset) t.0 t.1)) t.2)
    ]

-- the unit of a piece, and those after it
piece_within : (test : Test) (at : ℕ) (width : Width) (content : List ℕ) (unit : Option DwarfUnit) (others : List DwarfUnit) (size : ℕ) → IsUnitOf test at width content unit → at + length_size width + length content ≤ size → AllByRecursion (StandsIn size) others → AllByRecursion (StandsIn size) (cons_option unit others)
piece_within test at width [] unit others size u within h = rw (u) h
piece_within test at width (c ∷ content) unit others size u within h =
    let w = unit_of-within (extent_at at width (c ∷ content)) (offset_size width) (c ∷ content) u.0 refl u.2 in
    let stands : StandsIn size u.0 = (omega (arith, w.offset, w.behind, some-length width), omega (arith, w.first_entry, w.end), omega (arith, w.end, within)) in
    rw (u.1) (stands, h)

pub all_within : (test : Test) (at : ℕ) (bytes : List ℕ) (contents : List Content) (found : List DwarfUnit) → AreContents bytes contents → AreUnits test at contents found → AllByRecursion (StandsIn (at + length bytes)) found
all_within test at bytes [] found h u = subst (λ found. AllByRecursion (StandsIn (at + length bytes)) found) (sym u) tt
all_within test at bytes (content ∷ contents) found h u =
    let behind : ℕ = at + length_size content.width + length content.bytes in
    let whole : length bytes ≡ length_size content.width + length content.bytes + length h.1 = rw (h.2) (omega (arith, length-append h.0 h.1, piece-long content h.0 h.3)) in
    let end : behind + length h.1 ≡ at + length bytes = omega (arith, whole) in
    let others = subst (λ end. AllByRecursion (StandsIn end) u.1) end (all_within test behind h.1 contents u.1 h.4 u.4) in
    subst (λ found. AllByRecursion (StandsIn (at + length bytes)) found) (sym u.2) (piece_within test at content.width content.bytes u.0 u.1 (at + length bytes) u.3 (omega (arith, end)) others)
