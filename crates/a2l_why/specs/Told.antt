-- The report on a text that asks for something.
use Rattle.std.specs.Prelude.{ℕ, Bool, true, false, List, [], ◌∷◌, Option, Some, None, option_and_then, option_map}
use Rattle.std.specs.Prelude.{slice_get}
use Rattle.dw_model.specs.Answer.{Answer, not_covered, fault, found, located, unit_of}
use Rattle.dw_model.specs.Output as model
use Rattle.dw_model.specs.Query.{Query, address, span, meaning}
use Rattle.dw_model.specs.Section.{Sections, sections}
use Rattle.dw_model.specs.Unit.{DwarfUnit, units}
use Rattle.dw_symbols.specs.Answer.{answer_shown}
use Rattle.a2l_why.specs.declared.told.Told.{Told}

-- functions and all frames are written, without the address: -f and -i
abbrev pub options : model.Options
options = record { functions = true; inlines = true; addresses = false }

-- the lines of a query with an answer
abbrev pub query_lines : Query → Answer → List ℕ
query_lines query answer = model.query_lines options query answer

-- the lines that are written for a text
abbrev pub lines_of : (file : List ℕ) → (text : List ℕ) → List ℕ
lines_of file text = model.input_lines options (meaning file) text

-- the unit that answers an address; a span may have many
abbrev pub unit_of_query : Sections → Query → Option DwarfUnit
unit_of_query sections (address a) = unit_of sections a
unit_of_query sections (span low high) = None

-- the unit that answers the address for which a text asks
abbrev pub unit_of_word : (file : List ℕ) → (text : List ℕ) → Option DwarfUnit
unit_of_word file text = option_and_then (unit_of_query (sections file)) (model.query_in text)

-- the unit that a report says answers; none where it says that no unit does
abbrev pub unit_in : Sections → Told → Option DwarfUnit
unit_in sections told = option_and_then (slice_get (units sections.info)) told.way.place

-- the lines of a report
abbrev pub lines_told : Told → List ℕ
lines_told told = told.lines.items

-- the answer to what a text asks; none of a text that asks for nothing
abbrev pub answer_of_word : (file : List ℕ) → (text : List ℕ) → Option Answer
answer_of_word file text = option_map (meaning file) (model.query_in text)

-- the answer of a report
abbrev pub answer_told : Told → Option Answer
answer_told told = option_map answer_shown told.answer

-- frames or pieces are answered
abbrev pub has_places : Answer → Bool
has_places not_covered = false
has_places (fault unit code) = false
has_places (found unit frames) = true
has_places (located []) = false
has_places (located (piece ∷ pieces)) = true

-- a text asks for something, and frames or pieces are answered
abbrev pub is_answered : Option Answer → Bool
is_answered None = false
is_answered (Some answer) = has_places answer
