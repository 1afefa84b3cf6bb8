-- The parts of a span, each of one unit or of none, and their pieces.
use Rattle.std.specs.Prelude.{◌≡◌, ◌≤◌, ◌<◌, ℕ, List, [], ◌∷◌, map, Some, option_map, IfSome, slice_get}
use Rattle.dw_model.specs.Section.{sections}
use Rattle.dw_model.specs.Pieces.{ArePieces, place}
use Rattle.dw_symbols.specs.declared.early.Early.{Early}
use Rattle.dw_symbols.specs.declared.early.PartPieces.{PartPieces}
use Rattle.dw_symbols.specs.declared.span.Span.{Span}
use Rattle.dw_symbols.specs.declared.unit_walk.Part.{Part}
use Rattle.dw_symbols.specs.Answer.{piece_shown}
use Rattle.dw_symbols.specs.ImageUnit.{IsUnitOf, unit_in}

-- one unit of the file answers all addresses of a part, or none does
pub record IsPart (file : List ℕ) (part : Part) : Type 0 where
  pub rises : part.span.low < part.span.high
  pub unit : IsUnitOf (sections file) (option_map unit_in part.unit) part.span.low part.span.high
  pub image : IfSome part.unit (λ unit. unit.image.now ≡ file)

-- parts that follow one another, from one address on and up to another
abbrev pub AreParts : List ℕ → (low high : ℕ) → List Part → Type 0
AreParts file low high [] = low ≡ high
AreParts file low high (part ∷ parts) =
    (part.span.low ≡ low) × IsPart file part × AreParts file part.span.high high parts

-- the first parts of a span
abbrev pub AreFirstParts : List ℕ → Span → List Part → Type 0
AreFirstParts file span parts = (end : ℕ) × (span.low < end) × (end ≤ span.high) × AreParts file span.low end parts

-- the pieces of the part at an index
abbrev pub ArePiecesOf : List ℕ → List Part → ℕ → PartPieces → Type 0
ArePiecesOf file parts i found =
    (part : Part) → slice_get parts i ≡ Some part
    → ArePieces (place (sections file)) part.span.low part.span.high (map piece_shown found.pieces.items)

-- each that was found is that of its part
abbrev pub AreFound : List ℕ → List Part → Early → Type 0
AreFound file parts early =
    (i : ℕ) (found : PartPieces) → slice_get early.found.items i ≡ Some (Some found) → ArePiecesOf file parts i found
