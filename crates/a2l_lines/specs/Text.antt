-- The text of inputs whose answers are known.
use Rattle.std.specs.Prelude.{ℕ, Bool, true, false, ◌||◌, if◌then◌else◌, List, [], ◌++◌, map, flat_map, codes, decimal}
use Rattle.std.specs.Prelude.{Option, Some, None, option_map, unwrap_or}
use denote.Ref.{Bor}
use Rattle.std.specs.List.{list_any}
use Rattle.dw_model.specs.Output as model
use Rattle.dw_symbols.specs.declared.answer.Answer.{Answer}
use Rattle.dw_symbols.specs.declared.answer.Frame.{Frame}
use Rattle.dw_symbols.specs.declared.answer.Location.{Location}
use Rattle.dw_symbols.specs.Answer.{answer_shown, frame_shown, location_shown}
use Rattle.dw_symbols.specs.Told.{query_shown}
use Rattle.ticket_core.specs.declared.query.Query.{Query}
use Rattle.a2l_lines.specs.declared.options.Options.{Options}
use Rattle.a2l_lines.specs.declared.reply.Reply.{Reply}

-- what the options say of the text
abbrev pub options_shown : Options → model.Options
options_shown options = record {
  functions = options.functions;
  inlines = options.inlines;
  addresses = options.addresses;
}

abbrev pub is_bad : Option Query → Bool
is_bad None = true
is_bad (Some query) = false

-- some input is a bad address, or some answer a fault
abbrev pub some_fault : List (Option Query) → List Reply → Bool
some_fault inputs replies = list_any is_bad inputs || list_any (λ reply. reply.is_fault) replies

-- what is after a path: `:LINE`, `:?` where the line isn't known, or `:0` where the path isn't
-- either
abbrev pub line_text : Option (List ℕ) → Option ℕ → List ℕ
line_text path (Some line) = codes ":" ++ decimal line
line_text (Some path) None = codes ":?"
line_text None None = codes ":0"

-- an option's name by its bytes
abbrev pub name_shown : Option (Bor (List ℕ)) → Option (List ℕ)
name_shown name = option_map (λ name. name.now) name

-- the path, or `??`
abbrev pub path_text : Option (List ℕ) → List ℕ
path_text path = unwrap_or path (codes "??")

-- ---- what is written of what is known

-- what is after the path, to the end of the line
abbrev pub line_end : Location → List ℕ
line_end location = line_text (location_shown location).path (location_shown location).line ++ model.newline

abbrev pub location_line : Location → List ℕ
location_line location =
    model.location_text (location_shown location).path (location_shown location).line ++ model.newline

abbrev pub name_line : Option (Bor (List ℕ)) → List ℕ
name_line name = model.name_text (name_shown name) ++ model.newline

abbrev pub frame_text : Options → Frame → List ℕ
frame_text options frame = model.frame_lines (options_shown options) (frame_shown frame)

abbrev pub frames_text : Options → List Frame → List ℕ
frames_text options frames = flat_map (model.frame_lines (options_shown options)) (map frame_shown frames)

abbrev pub answer_text : Options → Answer → List ℕ
answer_text options answer = model.answer_lines (options_shown options) (answer_shown answer)

-- with -a the line of the query itself
abbrev pub head_text : Options → Query → List ℕ
head_text options query = if options.addresses then model.query_line (query_shown query) else []

abbrev pub query_text : Options → Query → Answer → List ℕ
query_text options query answer = model.query_lines (options_shown options) (query_shown query) (answer_shown answer)
