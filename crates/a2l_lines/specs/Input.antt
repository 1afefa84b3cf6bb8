-- What is asked for.
use Rattle.std.specs.Prelude.{◌≡◌, ◌+◌, ◌==◌, ℕ, List, [], take, drop, position, Option, Some, None, IfSome, option_map}
use Rattle.std.specs.Option.{option_map_or}
use denote.Ref.{Bor}
use Rattle.std.specs.Str.Lines.{strip_carriage_return}
use Rattle.a2l_lines.specs.declared.input.Input.{Input}
use Rattle.a2l_lines.specs.declared.input.Input.TheVariants.{Asked, Bad}
use Rattle.ticket_core.specs.declared.query.Query.{Query}
use Rattle.dw_model.specs.Query as model
use Rattle.dw_symbols.specs.Told.{query_shown}

-- an input by its query; a bad address by none
abbrev pub input_shown : Input → Option Query
input_shown (Asked query) = Some query
input_shown Bad = None

-- the same as a query of a file
abbrev pub asked_by : Input → Option model.Query
asked_by input = option_map query_shown (input_shown input)

-- a word of the command line by its bytes
abbrev pub word_shown : Bor (List ℕ) → List ℕ
word_shown word = word.now

abbrev newline_in : List ℕ → Option ℕ
newline_in bytes = position (λ byte. byte == 10) bytes

-- the first line of a text that isn't empty, without its end
abbrev pub first_line : List ℕ → List ℕ
first_line bytes = option_map_or (λ end. strip_carriage_return (take end bytes)) (newline_in bytes) bytes

-- what follows that line
abbrev pub after_line : List ℕ → List ℕ
after_line bytes = option_map_or (λ end. drop (end + 1) bytes) (newline_in bytes) []

-- the bytes are all that was still to come, where that is known
abbrev pub IsInput : Option (List ℕ) → List ℕ → Type 0
IsInput left bytes = IfSome left (λ all. bytes ≡ all)
