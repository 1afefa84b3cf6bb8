-- The bytes that are written.
use Rattle.std.specs.Prelude.{ℕ, ◌+◌, ◌-◌, Bool, true, false, ◌&&◌, ◌||◌, List, [], ◌∷◌, ◌++◌, length, take, drop}
use Rattle.std.specs.Prelude.{replicate, position, Option, Some, None, option_map, flat_map, unwrap_or, slice_index}
use Rattle.std.specs.Prelude.{nat_lt, nat_le, ◌==◌, if◌then◌else◌, codes, decimal}
use Rattle.std.specs.List.{list_all, list_any}
use Rattle.std.specs.Option.{option_map_or}
use Rattle.std.specs.Fmt.{digits}
use Rattle.std.specs.Char.{is_ascii_hexdigit}
use Rattle.std.specs.Str.Lines.{lines}
use Rattle.std.specs.Str.Parse.{digits_value}
use Rattle.dw_model.specs.Section.{section}
use Rattle.dw_model.specs.Unit.{Kind, compile, partial, skeleton, skipped, DwarfUnit, units}
use Rattle.dw_model.specs.Faults.{entry_fault, depth_fault, ranges_fault}
use Rattle.dw_model.specs.Answer.{Frame, Code, tree_fault, line_fault, Piece, Answer, not_covered, fault, found}
use Rattle.dw_model.specs.Answer.{located}
use Rattle.dw_model.specs.Query.{Query, address, span, meaning}

-- a number in hexadecimal digits of lower case, without leading zeros
abbrev pub hexadecimal : ℕ → List ℕ
hexadecimal n = digits 16 false n

abbrev pub newline : List ℕ
newline = codes "\n"

-- ---- the listing of units

abbrev pub kind_name : Kind → List ℕ
kind_name compile = codes "compile"
kind_name partial = codes "partial"
kind_name skeleton = codes "skeleton"
kind_name skipped = codes "skipped"

-- a unit's line
abbrev pub unit_line : DwarfUnit → List ℕ
unit_line unit =
    codes "0x" ++ (hexadecimal unit.offset
    ++ (codes " version " ++ (decimal unit.version ++ (codes " " ++ (kind_name unit.kind ++ newline)))))

-- the lines of these units
abbrev pub unit_lines : List DwarfUnit → List ℕ
unit_lines units = flat_map unit_line units

-- what --units writes for an accepted file
abbrev pub listing : List ℕ → List ℕ
listing file = unit_lines (units (section file (codes ".debug_info")))

-- ---- inputs

-- the texts that are asked for: the words of the command line, or where there are none the lines of
-- the input
abbrev pub inputs : List (List ℕ) → List ℕ → List (List ℕ)
inputs [] bytes = lines bytes
inputs (word ∷ words) bytes = word ∷ words

-- a text without `0x` or `0X` before it
abbrev pub without_prefix : List ℕ → List ℕ
without_prefix text =
    if slice_index text 0 == 48 && (slice_index text 1 == 120 || slice_index text 1 == 88) then drop 2 text else text

-- an address is 1 to 16 hexadecimal digits of either case, after `0x`, `0X` or nothing
abbrev pub address_in : List ℕ → Option ℕ
address_in text =
    let digits = without_prefix text in
    if nat_lt 0 (length digits) && (nat_le (length digits) 16 && list_all is_ascii_hexdigit digits)
    then Some (digits_value 16 digits) else None

-- a span from an address on and below another, where both are there and the first is below the
-- second
abbrev pub span_between : Option ℕ → Option ℕ → Option Query
span_between (Some low) (Some high) = if nat_lt low high then Some (span low high) else None
span_between _ _ = None

-- where the first `-` of a text is
abbrev pub dash_in : List ℕ → Option ℕ
dash_in text = position (λ byte. byte == 45) text

-- What a text asks for: an address, or a span, which is an address, `-` and an address above it;
-- anything else is a bad address (own).
abbrev pub query_in : List ℕ → Option Query
query_in text =
    option_map_or (λ dash. span_between (address_in (take dash text)) (address_in (drop (dash + 1) text)))
    (dash_in text)
    (option_map address (address_in text))

-- ---- the answers

-- what is asked to be written
pub record Options : Type 0 where
  pub functions : Bool
  pub inlines : Bool
  pub addresses : Bool

abbrev pub code_number : Code → ℕ
code_number (tree_fault entry_fault) = 1
code_number (tree_fault depth_fault) = 2
code_number (tree_fault ranges_fault) = 3
code_number line_fault = 4

-- 16 digits, zeros before the number
abbrev pub sixteen_digits : ℕ → List ℕ
sixteen_digits n = let text = hexadecimal n in replicate (16 - length text) 48 ++ text

-- `PATH:LINE`; without a line `PATH:?`, without a path `??:LINE`, and with neither `??:0`
abbrev pub location_text : Option (List ℕ) → Option ℕ → List ℕ
location_text None None = codes "??:0"
location_text None (Some line) = codes "??:" ++ decimal line
location_text (Some path) None = path ++ codes ":?"
location_text (Some path) (Some line) = path ++ (codes ":" ++ decimal line)

abbrev pub name_text : Option (List ℕ) → List ℕ
name_text name = unwrap_or name (codes "??")

abbrev pub frame_lines : Options → Frame → List ℕ
frame_lines options frame =
    (if options.functions then name_text frame.name ++ newline else [])
    ++ (location_text frame.location.path frame.location.line ++ newline)

-- a frame of which nothing is known
abbrev pub unknown_frame : Frame
unknown_frame = record { name = None; location = record { path = None; line = None; column = None } }

abbrev pub fault_line : ℕ → Code → List ℕ
fault_line unit code =
    codes "!unit 0x" ++ (hexadecimal unit ++ (codes " fault " ++ (decimal (code_number code) ++ newline)))

-- all frames, or the innermost alone
abbrev pub shown : Options → List Frame → List Frame
shown options frames = if options.inlines then frames else take 1 frames

-- the first address of a span, and its end
abbrev pub span_text : ℕ → ℕ → List ℕ
span_text low high = codes "0x" ++ (sixteen_digits low ++ (codes "-0x" ++ sixteen_digits high))

-- a piece and its location
abbrev pub piece_line : Piece → List ℕ
piece_line piece =
    span_text piece.begin piece.end ++ (codes " " ++ (location_text piece.location.path piece.location.line ++ newline))

-- a span without pieces is written as an address of which nothing is known
abbrev pub piece_lines : List Piece → List ℕ
piece_lines [] = codes "??:0\n"
piece_lines (piece ∷ pieces) = flat_map piece_line (piece ∷ pieces)

abbrev pub answer_lines : Options → Answer → List ℕ
answer_lines options not_covered = frame_lines options unknown_frame
answer_lines options (fault unit code) = fault_line unit code
answer_lines options (found unit frames) = flat_map (frame_lines options) (shown options frames)
answer_lines options (located pieces) = piece_lines pieces

abbrev pub address_line : ℕ → List ℕ
address_line a = codes "0x" ++ (sixteen_digits a ++ newline)

abbrev pub span_line : (low high : ℕ) → List ℕ
span_line low high = span_text low high ++ newline

-- the query itself
abbrev pub query_line : Query → List ℕ
query_line (address a) = address_line a
query_line (span low high) = span_line low high

-- the lines of one query by its answer
abbrev pub query_lines : Options → Query → Answer → List ℕ
query_lines options query answer = (if options.addresses then query_line query else []) ++ answer_lines options answer

abbrev pub bad_address_line : List ℕ
bad_address_line = codes "!bad address\n"

abbrev pub input_lines : Options → (Query → Answer) → List ℕ → List ℕ
input_lines options means input =
    option_map_or (λ query. query_lines options query (means query)) (query_in input) bad_address_line

-- what is written for these inputs
abbrev pub text : Options → List ℕ → List (List ℕ) → List ℕ
text options file inputs = flat_map (input_lines options (meaning file)) inputs

-- an answer is a fault
abbrev pub is_fault : Answer → Bool
is_fault not_covered = false
is_fault (fault unit code) = true
is_fault (found unit frames) = false
is_fault (located pieces) = false

-- some input is a bad address or has a fault for an answer
abbrev pub has_faults : List ℕ → List (List ℕ) → Bool
has_faults file inputs =
    list_any (λ input. option_map_or (λ query. is_fault (meaning file query)) (query_in input) true) inputs
