-- Pieces that are found in order of address.
use Rattle.std.specs.Prelude.{◌≡◌, ◌≤◌, ◌<◌, ℕ, List, [], ◌∷◌, Option, Some, option_map, Result, Ok}
use Rattle.dw_model.specs.Answer as model
use Rattle.dw_model.specs.Answer.{Lines, location_at}
use Rattle.dw_model.specs.Pieces.{UnitFault, ArePieces, with_piece}
use Rattle.dw_line.specs.declared.rows.Row.{Row}
use Rattle.dw_line.specs.declared.walk.Stretch.{Stretch}
use Rattle.dw_line.specs.Search.{told_at}
use Rattle.dw_symbols.specs.Paths.{file_path}

-- the location of a row, as it is told
abbrev pub row_place : Lines → Row → model.Location
row_place table row = location_at (file_path table row.file) (Some row.line) (Some row.column)

-- a piece with this path
abbrev pub with_path : Option (List ℕ) → model.Piece → model.Piece
with_path path piece = record {
  begin = piece.begin;
  end = piece.end;
  location = record { path = path; line = piece.location.line; column = piece.location.column };
}

-- If `old` are the pieces of the addresses up to `begin`, `new` are those of the addresses up to
-- `end`, whatever address the pieces start from.
abbrev pub Adds : (ℕ → Option model.Location) → (begin end : ℕ) → (old new : List model.Piece) → Type 0
Adds here begin end old new =
    (location : ℕ → Result (Option model.Location) UnitFault) (low : ℕ) → low ≤ begin → ArePieces location low begin old
    → ((a : ℕ) → begin ≤ a → a < end → location a ≡ Ok (here a)) → ArePieces location low end new

-- the addresses of a stretch are added, with the location of its row
abbrev pub AddsStretch : Lines → Stretch → (old new : List model.Piece) → Type 0
AddsStretch table stretch old new =
    stretch.begin < stretch.end → Adds (λ _. option_map (row_place table) stretch.row) stretch.begin stretch.end old new

-- the addresses of a span are added, each with the location of its row
abbrev pub AddsRows : Lines → (low high : ℕ) → (old new : List model.Piece) → Type 0
AddsRows table low high old new = Adds (λ a. option_map (row_place table) (told_at table.rows a)) low high old new

-- pieces more after the others, one after the other
abbrev pub with_pieces : List model.Piece → List model.Piece → List model.Piece
with_pieces pieces [] = pieces
with_pieces pieces (next ∷ later) = with_pieces (with_piece pieces next) later
