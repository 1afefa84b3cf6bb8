-- What a span of addresses means: the pieces of it that have locations.
use Rattle.std.specs.Prelude.{◌≡◌, ◌≢◌, ◌≤◌, ◌<◌, ℕ, zero, suc, ◌+◌, ◌-◌, Bool, true, false, ◌&&◌, List, [], ◌∷◌}
use Rattle.std.specs.Prelude.{Option, Some, None, option_map, Result, Ok, Err, nat_le, nat_lt, nat_eq, ◌==◌}
use Rattle.std.specs.Prelude.{if◌then◌else◌, IsOk}
use Rattle.std.specs.Cmp.Lexicographic.{pointwise}
use Rattle.std.specs.Option.{option_map_or}
use Rattle.dw_model.specs.Results.{◌>>=◌, with_code}
use Rattle.dw_model.specs.Section.{Sections, sections}
use Rattle.dw_model.specs.Unit.{DwarfUnit}
use Rattle.dw_model.specs.Answer.{Location, Piece, Code, line_fault, Answer, fault, located, unit_of, lines, row_at}
use Rattle.dw_model.specs.Answer.{row_location}

-- a unit by its offset, and its fault
abbrev pub UnitFault : Type 0
UnitFault = ℕ × Code

-- The location of an address by its row: none where its unit has no row for it; the unit's fault
-- where its line table is bad.
abbrev pub unit_place : Sections → DwarfUnit → ℕ → Result (Option Location) UnitFault
unit_place sections unit a =
    with_code (λ _. (unit.offset, line_fault)) (lines sections unit) >>= λ table.
    Ok (option_map (λ row. row_location table (Some row)) (row_at table a))

-- the same of the unit that covers the address, and none where no unit does
unfoldable pub place : Sections → ℕ → Result (Option Location) UnitFault
place sections a = option_map_or (λ unit. unit_place sections unit a) (unit_of sections a) (Ok None)

-- ---- the pieces of addresses, each of which has a location or none

abbrev pub is_same_number : Option ℕ → Option ℕ → Bool
is_same_number None None = true
is_same_number (Some m) (Some n) = nat_eq m n
is_same_number _ _ = false

abbrev pub is_same_path : Option (List ℕ) → Option (List ℕ) → Bool
is_same_path None None = true
is_same_path (Some p) (Some q) = pointwise nat_eq p q
is_same_path _ _ = false

-- the same path, line and column
abbrev pub is_same : Location → Location → Bool
is_same p q = is_same_path p.path q.path && (is_same_number p.line q.line && is_same_number p.column q.column)

-- An address before the pieces of those after it: the first of these begins one address earlier,
-- where it begins just after the address and has its location; else the address is a piece of its
-- own.
abbrev pub with_address : ℕ → Option Location → List Piece → List Piece
with_address a None pieces = pieces
with_address a (Some location) [] = record { begin = a; end = a + 1; location = location } ∷ []
with_address a (Some location) (piece ∷ pieces) =
    if piece.begin == a + 1 && is_same location piece.location then
    record { begin = a; end = piece.end; location = piece.location } ∷ pieces else
    record { begin = a; end = a + 1; location = location } ∷ piece ∷ pieces

-- the pieces of so many addresses from one on, or the fault of the first that has one
unfoldable pub pieces_from : (ℕ → Result (Option Location) UnitFault) → (a count : ℕ) → Result (List Piece) UnitFault
pieces_from location a zero = Ok []
pieces_from location a (suc count) = do
  here ← location a
  later ← pieces_from location (a + 1) count
  Ok (with_address a here later)

abbrev pub as_answer : Result (List Piece) UnitFault → Answer
as_answer (Ok pieces) = located pieces
as_answer (Err found) = fault found.0 found.1

abbrev pub pieces_in : Sections → ℕ → ℕ → Answer
pieces_in sections low high = as_answer (pieces_from (place sections) low (high - low))

-- What the addresses from `low` on and below `high` mean: their pieces, or the fault of the first
-- that has one.
abbrev pub pieces : List ℕ → ℕ → ℕ → Answer
pieces file low high = pieces_in (sections file) low high

-- ---- what pieces are

-- Where the next piece begins at an end, it has another location.
abbrev pub IsApart : (end : ℕ) → Location → List Piece → Type 0
IsApart end location [] = Unit {0}
IsApart end location (next ∷ pieces) = end ≡ next.begin → location ≢ next.location

-- They lie in order from `low` on and below `high`, none is empty, and two that touch have
-- different locations.
abbrev pub AreInOrder : (low high : ℕ) → List Piece → Type 0
AreInOrder low high [] = Unit {0}
AreInOrder low high (piece ∷ pieces) =
    (low ≤ piece.begin) × (piece.begin < piece.end) × (piece.end ≤ high) × IsApart piece.end piece.location pieces
    × AreInOrder piece.end high pieces

-- the location of the piece in which an address lies
abbrev pub location_in : List Piece → ℕ → Option Location
location_in [] a = None
location_in (piece ∷ pieces) a = if nat_le piece.begin a && nat_lt a piece.end then Some piece.location
    else location_in pieces a

-- They are in order, and each address lies in one exactly where it has a location, which is that of
-- the piece.
pub record ArePieces (location : ℕ → Result (Option Location) UnitFault) (low high : ℕ)
    (pieces : List Piece) : Type 0 where
  pub order : AreInOrder low high pieces
  pub each : (a : ℕ) → low ≤ a → a < high → location a ≡ Ok (location_in pieces a)

-- It is the fault of the first address that has one.
pub record IsFirstFault (location : ℕ → Result (Option Location) UnitFault) (low high : ℕ)
    (found : UnitFault) : Type 0 where
  pub address : ℕ
  pub from : low ≤ address
  pub before : address < high
  pub is : location address ≡ Err found
  pub first : (a : ℕ) → low ≤ a → a < address → IsOk (location a)

-- ---- pieces that are found in order

-- The next piece touches one and has its location.
abbrev pub joins : Piece → Piece → Bool
joins piece next = piece.end == next.begin && is_same piece.location next.location

-- One piece more after the others, which joins the last of these, or is the last one then.
unfoldable pub with_piece : List Piece → Piece → List Piece
with_piece [] next = next ∷ []
with_piece (piece ∷ []) next =
    if joins piece next then record { begin = piece.begin; end = next.end; location = piece.location } ∷ [] else
    piece ∷ next ∷ []
with_piece (piece ∷ other ∷ pieces) next = piece ∷ with_piece (other ∷ pieces) next

-- the addresses from one on and below another have this location, or none
abbrev pub HaveLocation : (location : ℕ → Result (Option Location) UnitFault) → (begin end : ℕ)
    → Option Location → Type 0
HaveLocation location begin end here = (a : ℕ) → begin ≤ a → a < end → location a ≡ Ok here
