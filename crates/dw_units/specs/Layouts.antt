-- Declarations of a unit, each with its layout.
use Rattle.std.specs.Prelude.{◌≡◌, ◌==◌, ◌||◌, ℕ, Bool, false, List, Option, Some, None, Ok, IfSome, slice_get}
use Rattle.dw_model.specs.declared.dwarf.TheConstants.{DW_TAG_inlined_subroutine, DW_TAG_subprogram}
use Rattle.dw_model.specs.Abbrev.{Declaration, Specification, abbreviations, declared}
use Rattle.dw_model.specs.Section.{Sections}
use Rattle.dw_model.specs.Unit.{DwarfUnit}
use Rattle.dw_model.specs.Entry.{attributes_at}
use Rattle.dw_bytes.specs.Width.{size_of}
use Rattle.dw_forms.specs.Shape.{specs_of}
use Rattle.dw_forms.specs.Size.{Skips}
use Rattle.dw_units.specs.declared.layouts.Known.{Known}
use Rattle.dw_units.specs.declared.layouts.Known.TheVariants as known_variants
use Rattle.dw_units.specs.declared.layouts.Layouts.{Layouts}
use Rattle.dw_units.specs.declared.layouts.Meaning.{Meaning}
use Rattle.dw_units.specs.declared.layouts.Met.{Met}
use Rattle.dw_units.specs.declared.layouts.Met.TheVariants as met_variants

-- What is declared has this tag, children and attributes.
abbrev pub Means : Option Declaration → ℕ → Bool → List Specification → Type 0
Means found tag children specifications =
    (declaration : Declaration) × (found ≡ Some declaration) × (declaration.tag ≡ tag)
    × (declaration.children ≡ children) × (declaration.specifications ≡ specifications)

-- Wherever entries with these attributes are read, their values take so many bytes, where that is
-- told; offsets have so many.
abbrev pub IsSize : ℕ → Option ℕ → List Specification → Type 0
IsSize offset_size told specifications = IfSome told (λ n. Skips n (attributes_at offset_size specifications))

-- that of a subprogram or an inlined subroutine
abbrev pub is_function_tag : ℕ → Bool
is_function_tag tag = tag == DW_TAG_subprogram || tag == DW_TAG_inlined_subroutine

-- Its entries are no functions, and the values of each take so many bytes.
abbrev pub IsPlain : (offset_size : ℕ) → Option Declaration → Bool → ℕ → Type 0
IsPlain offset_size found children size =
    (tag : ℕ) × (specifications : List Specification) × Means found tag children specifications
    × (is_function_tag tag ≡ false) × Skips size (attributes_at offset_size specifications)

-- It is kept of the declaration of a code, among these; if it has a layout, that is at its place.
abbrev pub IsKept : List Declaration → Layouts → ℕ → Met → Type 0
IsKept declarations layouts code (met_variants.Plain children size) =
    IsPlain (size_of layouts.width) (declared declarations code) children size
IsKept declarations layouts code (met_variants.Laid laid) =
    (specifications : List Specification) × (slice_get layouts.list.items laid.place ≡ Some specifications)
    × Means (declared declarations code) laid.tag laid.children specifications
    × IsSize (size_of layouts.width) laid.size specifications

-- Each is the declaration of its code, among these.
abbrev pub AreOf : List Declaration → Layouts → Type 0
AreOf declarations layouts =
    (code : ℕ) (met : Met) → slice_get layouts.met.items code ≡ Some (Some met)
    → IsKept declarations layouts code met

-- the same of the declarations of a unit
abbrev pub AreOfUnit : Sections → DwarfUnit → Layouts → Type 0
AreOfUnit sections unit layouts =
    (declarations : List Declaration) → abbreviations sections.abbrevs unit.debug_abbrev_offset ≡ Ok declarations
    → AreOf declarations layouts

-- It is what the declaration says, where there is one.
abbrev pub MeansWhat : Option Meaning → Option Declaration → Type 0
MeansWhat None found = found ≡ None
MeansWhat (Some meaning) found = Means found meaning.tag meaning.children (specs_of meaning.shape)

-- It is what the declaration says, and the size is that of the values of its entries.
abbrev pub IsMeant : (offset_size : ℕ) → Meaning → Option Declaration → Type 0
IsMeant offset_size meaning found =
    MeansWhat (Some meaning) found × IsSize offset_size meaning.size (specs_of meaning.shape)

-- It is what the declaration says of its entries.
abbrev pub IsKnown : (offset_size : ℕ) → Option Declaration → Known → Type 0
IsKnown offset_size found (known_variants.Plain children size) = IsPlain offset_size found children size
IsKnown offset_size found (known_variants.Meant meaning) = IsMeant offset_size meaning found
