-- The values of attributes (DWARF 5, sections 7.5.5 and 7.5.6).
use Rattle.std.specs.Prelude.{◌≡◌, ◌≢◌, ℕ, ◌<◌, ◌^◌, ℤ, Bool, true, not, List, [], ◌∷◌, ◌++◌, length, Option, Some}
use Rattle.std.specs.Prelude.{None, Result, Ok, Err, IsTrue, ok_or, nat_eq, ◌==◌, if◌then◌else◌}
use Rattle.std.specs.List.{AllByRecursion}
use Rattle.std.specs.Map.{lookup}
use Rattle.byteorder.specs.Endian.{little_number}
use Rattle.dw_model.specs.declared.dwarf.TheConstants as constants
use Rattle.dw_model.specs.Results.{◌>>=◌}
use Rattle.dw_model.specs.Reading.{Place, made, number_at, bytes_at, text_at, items}
use Rattle.dw_model.specs.Leb.{IsUleb, IsSleb, fits_i64, BeginsTooWide, BeginsTooWideSigned, uleb_at, sleb_at}
use Rattle.dw_model.specs.Faults.{Fault, ends_early, unknown_form}

-- A value, of the kind that its form gives it here. Offsets and indexes are numbers of their
-- sections; what they lead to is looked up later.
pub data Value : Type 0 where
  address : ℕ → Value
  unsigned : ℕ → Value
  signed : ℤ → Value
  bytes : List ℕ → Value
  flag : Bool → Value
  inline : List ℕ → Value
  str : ℕ → Value
  line_str : ℕ → Value
  str_index : ℕ → Value
  address_index : ℕ → Value
  unit_ref : ℕ → Value
  section_ref : ℕ → Value
  section_offset : ℕ → Value
  range_index : ℕ → Value
  unused : ℕ → Value

-- How a value is spelled: as a number of so many bytes, of the size of an offset, or in LEB128; as
-- so many bytes, as a length and as many bytes, or as a text; or by nothing, where it is in the
-- declaration or is a flag that is set by being there.
pub data Spelling : Type 0 where
  fixed : (size : ℕ) → (ℕ → Value) → Spelling
  offset : (ℕ → Value) → Spelling
  uleb : (ℕ → Value) → Spelling
  sleb : Spelling
  block : (size : ℕ) → Spelling
  counted : (size : ℕ) → Spelling
  uleb_counted : Spelling
  text : Spelling
  implicit : Spelling
  present : Spelling

abbrev is_set : ℕ → Value
is_set n = flag (not (n == 0))

-- the forms by their codes, in the order of table 7.6, and after them two of the GNU tools;
-- DW_FORM_indirect is none of them, since it only names another
abbrev pub forms : List (ℕ × Spelling)
forms =
    (constants.DW_FORM_addr, fixed 8 address)
    ∷ (constants.DW_FORM_block2, counted 2)
    ∷ (constants.DW_FORM_block4, counted 4)
    ∷ (constants.DW_FORM_data2, fixed 2 unsigned)
    ∷ (constants.DW_FORM_data4, fixed 4 unsigned)
    ∷ (constants.DW_FORM_data8, fixed 8 unsigned)
    ∷ (constants.DW_FORM_string, text)
    ∷ (constants.DW_FORM_block, uleb_counted)
    ∷ (constants.DW_FORM_block1, counted 1)
    ∷ (constants.DW_FORM_data1, fixed 1 unsigned)
    ∷ (constants.DW_FORM_flag, fixed 1 is_set)
    ∷ (constants.DW_FORM_sdata, sleb)
    ∷ (constants.DW_FORM_strp, offset str)
    ∷ (constants.DW_FORM_udata, uleb unsigned)
    ∷ (constants.DW_FORM_ref_addr, offset section_ref)
    ∷ (constants.DW_FORM_ref1, fixed 1 unit_ref)
    ∷ (constants.DW_FORM_ref2, fixed 2 unit_ref)
    ∷ (constants.DW_FORM_ref4, fixed 4 unit_ref)
    ∷ (constants.DW_FORM_ref8, fixed 8 unit_ref)
    ∷ (constants.DW_FORM_ref_udata, uleb unit_ref)
    ∷ (constants.DW_FORM_sec_offset, offset section_offset)
    ∷ (constants.DW_FORM_exprloc, uleb_counted)
    ∷ (constants.DW_FORM_flag_present, present)
    ∷ (constants.DW_FORM_strx, uleb str_index)
    ∷ (constants.DW_FORM_addrx, uleb address_index)
    ∷ (constants.DW_FORM_ref_sup4, fixed 4 unused)
    ∷ (constants.DW_FORM_strp_sup, offset unused)
    ∷ (constants.DW_FORM_data16, block 16)
    ∷ (constants.DW_FORM_line_strp, offset line_str)
    ∷ (constants.DW_FORM_ref_sig8, fixed 8 unused)
    ∷ (constants.DW_FORM_implicit_const, implicit)
    ∷ (constants.DW_FORM_loclistx, uleb unused)
    ∷ (constants.DW_FORM_rnglistx, uleb range_index)
    ∷ (constants.DW_FORM_ref_sup8, fixed 8 unused)
    ∷ (constants.DW_FORM_strx1, fixed 1 str_index)
    ∷ (constants.DW_FORM_strx2, fixed 2 str_index)
    ∷ (constants.DW_FORM_strx3, fixed 3 str_index)
    ∷ (constants.DW_FORM_strx4, fixed 4 str_index)
    ∷ (constants.DW_FORM_addrx1, fixed 1 address_index)
    ∷ (constants.DW_FORM_addrx2, fixed 2 address_index)
    ∷ (constants.DW_FORM_addrx3, fixed 3 address_index)
    ∷ (constants.DW_FORM_addrx4, fixed 4 address_index)
    ∷ (constants.DW_FORM_GNU_ref_alt, offset unused)
    ∷ (constants.DW_FORM_GNU_strp_alt, offset unused)
    ∷ []

-- A value in its spelling. `size` is that of an offset; `constant` is the number that is in the
-- declaration, where one is.
unfoldable pub spelled_at : (size : ℕ) → Spelling → (constant : Option ℤ) → Place → Result (Value × Place) Fault
spelled_at size (fixed n make) constant p = made make (ok_or (number_at n p) ends_early)
spelled_at size (offset make) constant p = made make (ok_or (number_at size p) ends_early)
spelled_at size (uleb make) constant p = made make (uleb_at p)
spelled_at size sleb constant p = made signed (sleb_at p)
spelled_at size (block n) constant p = made bytes (ok_or (bytes_at n p) ends_early)
spelled_at size (counted n) constant p = do
  len ← ok_or (number_at n p) ends_early
  made bytes (ok_or (bytes_at len.0 len.1) ends_early)
spelled_at size uleb_counted constant p = do
  len ← uleb_at p
  made bytes (ok_or (bytes_at len.0 len.1) ends_early)
spelled_at size text constant p = made inline (ok_or (text_at p) ends_early)
spelled_at size implicit None p = Err unknown_form
spelled_at size implicit (Some z) p = Ok (signed z, p)
spelled_at size present constant p = Ok (flag true, p)

-- after DW_FORM_indirect is a form, which may be DW_FORM_indirect again
unfoldable pub next_form : ℕ × Place → Result (Option (Unit {0}) × (ℕ × Place)) Fault
next_form s = if s.0 == constants.DW_FORM_indirect then (uleb_at s.1 >>= λ form. Ok (Some tt, form)) else Ok (None, s)

-- the form that a form names through any number of DW_FORM_indirect, and the place of its value
abbrev pub direct_form : ℕ → Place → Result (ℕ × Place) Fault
direct_form form p = items (λ s. s.1.left) next_form (form, p) >>= λ found. Ok found.1

-- The value of a form (section 7.5.6). A constant of the declaration isn't reached through
-- DW_FORM_indirect.
unfoldable pub value_at : (size : ℕ) → (form : ℕ) → (constant : Option ℤ) → Place → Result (Value × Place) Fault
value_at size form constant p = do
  direct ← direct_form form p
  spelling ← ok_or (lookup (nat_eq direct.0) forms) unknown_form
  spelled_at size spelling (if form == constants.DW_FORM_indirect then None else constant) direct.1

-- The bytes are one whole spelling of the value.
abbrev pub IsSpelling : (size : ℕ) → Spelling → (constant : Option ℤ) → List ℕ → Value → Type 0
IsSpelling size (fixed n make) constant front v = (length front ≡ n) × (v ≡ make (little_number n front))
IsSpelling size (offset make) constant front v = (length front ≡ size) × (v ≡ make (little_number size front))
IsSpelling size (uleb make) constant front v = (n : ℕ) × IsUleb front n × (n < 2 ^ 64) × (v ≡ make n)
IsSpelling size sleb constant front v = (z : ℤ) × IsSleb front z × IsTrue (fits_i64 z) × (v ≡ signed z)
IsSpelling size (block n) constant front v = (length front ≡ n) × (v ≡ bytes front)
IsSpelling size (counted n) constant front v =
    (len content : List ℕ) × (front ≡ len ++ content) × (length len ≡ n) × (length content ≡ little_number n len)
    × (v ≡ bytes content)
IsSpelling size uleb_counted constant front v =
    (len content : List ℕ) × (front ≡ len ++ content) × IsUleb len (length content)
    × (length content < 2 ^ 64) × (v ≡ bytes content)
IsSpelling size text constant front v =
    (content : List ℕ) × (front ≡ content ++ 0 ∷ []) × AllByRecursion (λ b. b ≢ 0) content × (v ≡ inline content)
IsSpelling size implicit constant front v = (z : ℤ) × (constant ≡ Some z) × (front ≡ []) × (v ≡ signed z)
IsSpelling size present constant front v = (front ≡ []) × (v ≡ flag true)

-- The same by the form's code: by its spelling in the table, or through DW_FORM_indirect.
pub data Spells (size : ℕ) : (form : ℕ) → (constant : Option ℤ) → List ℕ → Value → Type 0 where
  direct : {form : ℕ} {constant : Option ℤ} {front : List ℕ} {v : Value} (spelling : Spelling)
      → lookup (nat_eq form) forms ≡ Some spelling → IsSpelling size spelling constant front v
      → Spells size form constant front v
  indirect : {constant : Option ℤ} {v : Value} (number front : List ℕ) (form : ℕ)
      → IsUleb number form → form < 2 ^ 64 → Spells size form None front v
      → Spells size constants.DW_FORM_indirect constant (number ++ front) v

-- ---- why a value isn't read

-- The form is unknown, or its number isn't in the declaration; or one of these holds of the form
-- that DW_FORM_indirect names.
pub data IsUnknown : (form : ℕ) → (constant : Option ℤ) → List ℕ → Type 0 where
  missing : {form : ℕ} {constant : Option ℤ} {left : List ℕ}
      → form ≢ constants.DW_FORM_indirect → lookup (nat_eq form) forms ≡ None → IsUnknown form constant left
  no_constant : {form : ℕ} {left : List ℕ} → lookup (nat_eq form) forms ≡ Some implicit → IsUnknown form None left
  unknown_behind : {constant : Option ℤ} (number left : List ℕ) (form : ℕ)
      → IsUleb number form → form < 2 ^ 64 → IsUnknown form None left
      → IsUnknown constants.DW_FORM_indirect constant (number ++ left)

-- the spelling begins with a LEB128 number, and that doesn't fit 64 bits
abbrev pub BeginsWide : Spelling → List ℕ → Type 0
BeginsWide (uleb make) left = BeginsTooWide left
BeginsWide sleb left = BeginsTooWideSigned left
BeginsWide uleb_counted left = BeginsTooWide left
BeginsWide _ left = ⊥

-- A LEB128 number doesn't fit: that of the value, or that of a form after DW_FORM_indirect.
pub data IsWide : (form : ℕ) → List ℕ → Type 0 where
  in_value : {form : ℕ} {left : List ℕ} (spelling : Spelling)
      → lookup (nat_eq form) forms ≡ Some spelling → BeginsWide spelling left → IsWide form left
  in_form : {left : List ℕ} → BeginsTooWide left → IsWide constants.DW_FORM_indirect left
  wide_behind : (number left : List ℕ) (form : ℕ)
      → IsUleb number form → form < 2 ^ 64 → IsWide form left → IsWide constants.DW_FORM_indirect (number ++ left)
