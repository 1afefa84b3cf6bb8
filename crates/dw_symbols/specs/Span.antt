-- The pieces of a span, as units add them.
use Rattle.std.specs.Prelude.{◌≡◌, ◌≤◌, ◌<◌, ℕ, List, Option, Some, None, Result, Ok, Err}
use Rattle.dw_model.specs.Answer.{Piece}
use Rattle.dw_model.specs.Section.{Sections}
use Rattle.dw_model.specs.Unit.{DwarfUnit}
use Rattle.dw_model.specs.Pieces.{ArePieces, unit_place, place}
use Rattle.dw_model.specs.Pieces as model
use Rattle.dw_symbols.specs.declared.answer.UnitFault.{UnitFault}
use Rattle.dw_symbols.specs.declared.span.Span.{Span}
use Rattle.dw_symbols.specs.Answer.{code_shown}

abbrev pub fault_shown : ℕ × UnitFault → model.UnitFault
fault_shown fault = (fault.0, code_shown fault.1)

-- the pieces of the addresses up to one, added to those of the addresses up to another before it
abbrev pub AddsUpTo : Sections → (low high : ℕ) → (old new : List Piece) → Type 0
AddsUpTo sections low high old new =
    (from : ℕ) → from ≤ low → ArePieces (place sections) from low old → ArePieces (place sections) from high new

-- the unit answers all addresses of a span
abbrev pub IsOfUnit : Sections → DwarfUnit → Span → Type 0
IsOfUnit sections unit span = (a : ℕ) → span.low ≤ a → a < span.high → place sections a ≡ unit_place sections unit a

-- they are the pieces of a span, where the unit answers all of its addresses
abbrev pub ArePiecesBy : Sections → DwarfUnit → Span → List Piece → Type 0
ArePiecesBy sections unit span pieces =
    IsOfUnit sections unit span → ArePieces (place sections) span.low span.high pieces

-- The pieces of the addresses of a span are added to those before it, where the unit answers them
-- all; or each has the fault.
abbrev pub AddsUnit : Sections → DwarfUnit → Span → Option UnitFault → (old new : List Piece) → Type 0
AddsUnit sections unit span None old new = IsOfUnit sections unit span → AddsUpTo sections span.low span.high old new
AddsUnit sections unit span (Some code) old new =
    (a : ℕ) → unit_place sections unit a ≡ Err (fault_shown (unit.offset, code))

-- The pieces of the addresses of a span are added to those before it; or its first address has the
-- fault.
abbrev pub AddsPart : Sections → Span → Option (ℕ × UnitFault) → (old new : List Piece) → Type 0
AddsPart sections span None old new = AddsUpTo sections span.low span.high old new
AddsPart sections span (Some fault) old new = place sections span.low ≡ Err (fault_shown fault)

-- The pieces of the addresses up to one of a span are added to those before it; or some address of
-- the span has the fault, and there are pieces of those before it.
abbrev pub AddsFirst : Sections → Span → Result ℕ (ℕ × UnitFault) → (old new : List Piece) → Type 0
AddsFirst sections span (Ok end) old new =
    (span.low < end) × (end ≤ span.high) × AddsUpTo sections span.low end old new
AddsFirst sections span (Err fault) old new =
    (a : ℕ) × (span.low ≤ a) × (a < span.high) × place sections a ≡ Err (fault_shown fault)
    × (before : List Piece) × AddsUpTo sections span.low a old before
