-- The pieces of a span by line tables.
use Rattle.std.proofs.Common.{◌≡◌, ◌≤◌, ◌<◌, ℕ, List, [], ◌∷◌, ◌++◌, get_or, map, Option, Some, None, true, false, Result, Ok, Err, length, ◌-◌, ◌+◌, refl, sym, subst, ap, ◌∙◌, arith}
use Rattle.std.specs.Prelude.{slice_set, ◌↔◌, option_map}
use Rattle.dw_model.specs.Answer as model
use Rattle.dw_model.specs.Answer.{Lines, Code, line_fault, unit_of, lines, row_at, row_location}
use Rattle.dw_model.specs.Pieces.{UnitFault, ArePieces, IsFirstFault, HaveLocation, joins, with_piece, unit_place, place, pieces_from, as_answer, pieces_in}
use Rattle.dw_line.specs.declared.rows.Row.{Row}
use Rattle.dw_line.specs.declared.walk.Stretch.{Stretch}
use Rattle.dw_symbols.specs.declared.answer.Piece.{Piece}
use Rattle.dw_symbols.specs.Answer.{piece_shown}
use Rattle.dw_line.specs.Search.{told_at, row_told}
use Rattle.dw_line.specs.Walked.{IsStretch}
use Rattle.dw_symbols.specs.Paths.{file_path}
use Rattle.dw_symbols.specs.Pieces.{row_place, with_path, AddsStretch, AddsRows}
use Rattle.dw_model.specs.Results.{◌>>=◌, with_code}
use Rattle.dw_model.specs.Faults.{Bad}
use Rattle.dw_model.specs.Matrix.{Row as ModelRow, row_of}
use Rattle.dw_model.specs.Section.{Sections}
use Rattle.dw_model.specs.Unit.{DwarfUnit}
use Rattle.dw_symbols.specs.declared.span.Span.{Span}
use Rattle.dw_line.specs.Lines.{Table, lines_shown}
use Rattle.dw_symbols.specs.UnitParts.{HasLines}
use Rattle.dw_symbols.specs.Span.{AddsUnit}

-- ---- one piece more

-- the last piece grows
pub grows : (old : List Piece) (n : ℕ) (last : Piece) (next : model.Piece) → length old ≡ n + 1 → last ≡ get_or old n last → joins (piece_shown last) next ≡ true
    → map piece_shown (slice_set old n (record { begin = last.begin; end = next.end; location = last.location })) ≡ with_piece (map piece_shown old) next
unfolding with_piece
grows [] n last next size is e = absurd (omega (arith, size))
grows (x ∷ []) n last next size is e = grind arith
grows (x ∷ y ∷ xs) n last next size is e = grind (arith, grows (y ∷ xs))

-- another one follows the last piece, which stays
pub follows : (old : List Piece) (n : ℕ) (last other : Piece) (next : model.Piece) → length old ≡ n + 1 → last ≡ get_or old n last → joins (piece_shown last) next ≡ false → piece_shown other ≡ next
    → map piece_shown (slice_set old n last ++ other ∷ []) ≡ with_piece (map piece_shown old) next
unfolding with_piece
follows [] n last other next size is e same = absurd (omega (arith, size))
follows (x ∷ []) n last other next size is e same = grind arith
follows (x ∷ y ∷ xs) n last other next size is e same = grind (arith, follows (y ∷ xs))

pub first-one : (old : List Piece) (other : Piece) (next : model.Piece) → length old ≡ 0 → piece_shown other ≡ next → map piece_shown (old ++ other ∷ []) ≡ with_piece (map piece_shown old) next
unfolding with_piece
first-one [] other next size same = grind arith
first-one (x ∷ xs) other next size same = absurd (omega (arith, size))

-- ---- the rows of a span

pub adds_none : (table : Lines) (stretch : Stretch) (old : List model.Piece) → stretch.row ≡ None
    → ((location : ℕ → Result (Option model.Location) UnitFault) (low high later : ℕ) (pieces : List model.Piece) → ArePieces location low high pieces → high ≤ later → HaveLocation location high later None → ArePieces location low later pieces)
    → AddsStretch table stretch old old
adds_none table stretch old none law = λ rises location low order are have.
    law location low stretch.begin stretch.end old are (omega (arith, rises))
    (λ a above below. have a above below ∙ ap (λ row. Ok (option_map (row_place table) row)) none)

pub adds_one : (table : Lines) (stretch : Stretch) (row : Row) (old : List model.Piece) (next : model.Piece) → stretch.row ≡ Some row → next ≡ record { begin = stretch.begin; end = stretch.end; location = row_place table row }
    → ((location : ℕ → Result (Option model.Location) UnitFault) (low : ℕ) (pieces : List model.Piece) (next : model.Piece) → ArePieces location low next.begin pieces → low ≤ next.begin → next.begin < next.end → HaveLocation location next.begin next.end (Some next.location) → ArePieces location low next.end (with_piece pieces next))
    → AddsStretch table stretch old (with_piece old next)
adds_one table stretch row old next is same law = λ rises location low order are have.
    let piece : model.Piece = record { begin = stretch.begin; end = stretch.end; location = row_place table row } in
    rw same (law location low old piece are order rises (λ a above below. have a above below ∙ ap (λ row. Ok (option_map (row_place table) row)) is))

-- a row's piece, of which the path was found apart
pub placed : (table : Lines) (row : Row) (begin end : ℕ) (path : Option (List ℕ)) (location : model.Location) → path ≡ file_path table row.file → location ≡ model.location_at None (Some row.line) (Some row.column)
    → with_path path (record { begin = begin; end = end; location = location }) ≡ record { begin = begin; end = end; location = row_place table row }
placed table row begin end path location same is = grind arith

-- they are the pieces of the addresses before one of the span, if each has the location of its row
abbrev pub AddedTo : Lines → (low high at : ℕ) → (old now : List model.Piece) → Type 0
AddedTo table low high at old now =
    (location : ℕ → Result (Option model.Location) UnitFault) (from : ℕ) → from ≤ low → ArePieces location from low old
    → ((a : ℕ) → low ≤ a → a < high → location a ≡ Ok (option_map (row_place table) (told_at table.rows a))) → ArePieces location from at now

pub stretch_added : (table : Lines) (low high at : ℕ) (stretch : Stretch) (old now new : List model.Piece) → low ≤ at → IsStretch table.rows at high stretch → AddedTo table low high at old now → AddsStretch table stretch now new
    → AddedTo table low high stretch.end old new
stretch_added table low high at stretch old now new order is added adds = λ location from before are have.
    let rises : stretch.begin < stretch.end = omega (arith, is.begins, is.rises) in
    adds rises location from (omega (arith, before, order, is.begins)) (rw (is.begins) (added location from before are have))
    (λ a above below. have a (omega (arith, order, above, is.begins)) (omega (arith, below, is.within)) ∙ ap (λ row. Ok (option_map (row_place table) row)) (is.row a (omega (arith, above, is.begins)) below))

pub all_added : (table : Lines) (low high at : ℕ) (old now : List model.Piece) → at ≤ high → high ≤ at → AddedTo table low high at old now → AddsRows table low high old now
all_added table low high at old now within ended added = λ location from before are have.
    let same : at ≡ high = omega (arith, within, ended) in rw (← same) (added location from before are have)

-- ---- the addresses of a unit

abbrev pub NoneMore : Type 0
NoneMore = (location : ℕ → Result (Option model.Location) UnitFault) (low high later : ℕ) (pieces : List model.Piece) → ArePieces location low high pieces → high ≤ later → HaveLocation location high later None → ArePieces location low later pieces

abbrev rows_place : Sections → DwarfUnit → ℕ → Result (Option Lines) Bad → Result (Option model.Location) UnitFault
rows_place s unit a read =
    with_code (λ _. (unit.offset, line_fault)) read >>= λ table. Ok (option_map (λ row. row_location table (Some row)) (row_at table a))

place_ok : (s : Sections) (unit : DwarfUnit) (table : Option Lines) (a : ℕ) → Ok table ≡ with_code (λ _. line_fault) (lines s unit) → unit_place s unit a ≡ Ok (option_map (λ row. row_location table (Some row)) (row_at table a))
place_ok s unit table a h = grind arith

same_place : (table : Lines) (found : Option ModelRow) → option_map (row_place table) (option_map row_told found) ≡ option_map (λ row. row_location (Some table) (Some row)) found
same_place table found = grind arith

pub unit_adds : (s : Sections) (unit : DwarfUnit) (span : Span) (table : Table) (old new : List model.Piece) → HasLines s unit (Ok (Some table)) → AddsRows (lines_shown table) span.low span.high old new → AddsUnit s unit span None old new
unit_adds s unit span table old new has adds = λ same from order are.
    adds (place s) from order are
    (λ a above below. same a above below ∙ place_ok s unit (Some (lines_shown table)) a has ∙ ap Ok (sym (same_place (lines_shown table) (row_of table.rows a))))

pub unit_adds_none : (s : Sections) (unit : DwarfUnit) (span : Span) (old : List model.Piece) → span.low ≤ span.high → HasLines s unit (Ok None) → NoneMore → AddsUnit s unit span None old old
unit_adds_none s unit span old rises has law = λ same from order are.
    law (place s) from span.low span.high old are rises (λ a above below. same a above below ∙ place_ok s unit None a has)

-- ---- the addresses of units

pub place_none : (s : Sections) (a : ℕ) → None ≡ unit_of s a → place s a ≡ Ok None
unfolding place
place_none s a none = rw (sym none) refl

pub place_some : (s : Sections) (unit : DwarfUnit) (a : ℕ) → Some unit ≡ unit_of s a → place s a ≡ unit_place s unit a
unfolding place
place_some s unit a some = rw (sym some) refl

-- ---- the whole

pub all_pieces : (s : Sections) (low high at : ℕ) (found : List model.Piece) → low ≤ at → at ≤ low + (high - low) → high ≤ at → ArePieces (place s) low at found
    → ((location : ℕ → Result (Option model.Location) UnitFault) (low count : ℕ) (found : List model.Piece) → (pieces_from location low count ≡ Ok found) ↔ ArePieces location low (low + count) found)
    → model.located found ≡ pieces_in s low high
all_pieces s low high at found from within ended are law =
    let end : at ≡ low + (high - low) = omega (arith, from, within, ended) in
    ap as_answer (sym ((law (place s) low (high - low) found).1 (subst (λ (n : ℕ). ArePieces (place s) low n found) end are)))

pub first_fault : (s : Sections) (low high at : ℕ) (found : List model.Piece) (fault : UnitFault) → low ≤ at → at < high → ArePieces (place s) low at found → place s at ≡ Err fault
    → ((location : ℕ → Result (Option model.Location) UnitFault) (low count : ℕ) (found : UnitFault) → (pieces_from location low count ≡ Err found) ↔ IsFirstFault location low (low + count) found)
    → model.fault fault.0 fault.1 ≡ pieces_in s low high
first_fault s low high at found fault from before are is law =
    let first : IsFirstFault (place s) low (low + (high - low)) fault = record { address = at; from = from; before = omega (arith, from, before); is = is; first = λ a above below. rw (are.each a above below) refl } in
    ap as_answer (sym ((law (place s) low (high - low) fault).1 first))
