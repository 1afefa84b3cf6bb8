-- The command line as `clap` has it, and what words name on it.
use Rattle.std.specs.Prelude.{Bool, true, List, [], ◌∷◌, Some, codes, unwrap_or}
use Rattle.std.specs.Option.{option_eq}
use Rattle.std.specs.Str.{bytes_eq}
use Rattle.clap.specs.Lexer.{usize_max}
use Rattle.clap.specs.Words.{App, Row, Rule, Text, all_of, first_of, matches_of, new_rule}
use Rattle.clap.specs.Simple.{new_shape}
use Rattle.clap.specs.declared.builder.action.ArgAction.TheVariants.{Append, Set, SetTrue}
use Rattle.dw_model.specs.Output.{Options}

-- a word with a value after it
abbrev pub option : Text → Rule
option id = record (new_rule id) { action = Some Set }

-- a word that is there or not
abbrev pub flag : Text → Rule
flag id = record (new_rule id) { action = Some SetTrue }

-- `-e FILE`, which has to be there
abbrev pub file : Rule
file = record (option (codes "file")) { short = Some 101; required = true }

-- all other words: the addresses and spans
abbrev pub words : Rule
words = record (new_rule (codes "words")) {
  action = Some Append;
  range = Some (record { start_inclusive = 0; end_inclusive = usize_max });
}

-- the arguments, with `-f`, `-i` and `-a`
abbrev pub arguments : List Rule
arguments =
    file
    ∷ record (flag (codes "functions")) { short = Some 102 }
    ∷ record (flag (codes "inlines")) { short = Some 105 }
    ∷ record (flag (codes "addresses")) { short = Some 97 }
    ∷ record (option (codes "workers")) { long = Some (codes "workers") }
    ∷ record (option (codes "senders")) { long = Some (codes "senders") }
    ∷ record (flag (codes "units")) { long = Some (codes "units") }
    ∷ words
    ∷ []

-- The command line: words without the program's own name, and no flag beside the arguments.
abbrev pub command_line : App
command_line = record {
  top = record (new_shape (codes "a2l")) {
    rules = arguments;
    no_binary_name = true;
    disable_help_flag = true;
    disable_version_flag = true;
  };
  subs = [];
}

-- what is found of each argument in words
abbrev pub found_in : List Text → List Row
found_in words = matches_of command_line words

-- the flag is there
abbrev pub is_set : Text → List Row → Bool
is_set id rows = option_eq bytes_eq (first_of id rows) (Some (codes "true"))

-- the addresses and spans that words name, as they are written
abbrev pub words_in : List Row → List Text
words_in rows = unwrap_or (all_of (codes "words") rows) []

-- how they ask for these to be answered
abbrev pub options_in : List Row → Options
options_in rows = record {
  functions = is_set (codes "functions") rows;
  inlines = is_set (codes "inlines") rows;
  addresses = is_set (codes "addresses") rows;
}
