-- What a run that answers addresses writes.
use Rattle.std.specs.Prelude.{◌≡◌, ℕ, Bool, List, map, Option, if◌then◌else◌}
use denote.Ref.{Bor}
use Rattle.std.specs.Io.KnownBytes.{append_known}
use Rattle.dw_model.specs.Output as model
use Rattle.dw_model.specs.Query as asks
use Rattle.dw_symbols.specs.Told.{means}
use Rattle.ticket_core.specs.declared.query.Query.{Query}
use Rattle.a2l_lines.specs.Ends.{WritesBeginning}
use Rattle.a2l_lines.specs.Input.{IsInput, word_shown, asked_by, input_shown}
use Rattle.a2l_lines.specs.Sharing.{Shares}
use Rattle.a2l_lines.specs.Reply.{AreReplies}
use Rattle.a2l_lines.specs.Text.{options_shown}
use Rattle.a2l_lines.specs.declared.input.Input.{Input}
use Rattle.a2l_lines.specs.declared.options.Options.{Options}
use Rattle.a2l_lines.specs.declared.report.Report.{Report}
use Rattle.a2l_lines.specs.declared.symbolizer.Status.{Status}
use Rattle.a2l_lines.specs.declared.symbolizer.Status.TheVariants.{Clean, Faults}

-- what is asked for by words, or where there are none by the bytes that were still to come
pub record Asks (words : List (List ℕ)) (left : Option (List ℕ)) (found : List (Option asks.Query)) : Type 0 where
  pub bytes : List ℕ
  pub input : IsInput left bytes
  pub asked : found ≡ map model.query_in (model.inputs words bytes)

-- the same of words of the command line and what was read of them
abbrev pub AreAsked : List (Bor (List ℕ)) → (left : Option (List ℕ)) → List Input → Type 0
AreAsked words left inputs = Asks (map word_shown words) left (map asked_by inputs)

-- the replies to the queries among inputs, and what each input picks of them
pub record Reports (options : model.Options) (file : List ℕ) (inputs : List Input) (report : Report) : Type 0 where
  pub asked : List Query
  pub shares : Shares (map input_shown inputs) asked report.picks.items
  pub replies : AreReplies options (means file) asked report.replies.items

-- how a run ends in which there were faults, or none
abbrev pub status_for : Bool → Status
status_for faults = if faults then Faults else Clean

-- all of the text was written, and the status says whether it has a bad address or a fault
pub record Symbolizes (options : model.Options) (file : List ℕ) (words : List (List ℕ))
    (left old new : Option (List ℕ)) (ended : Status) : Type 0 where
  pub bytes : List ℕ
  pub input : IsInput left bytes
  pub written : new ≡ append_known old (model.text options file (model.inputs words bytes))
  pub status : ended ≡ status_for (model.has_faults file (model.inputs words bytes))

-- a beginning of the text was written
pub record SymbolizesBeginning (options : model.Options) (file : List ℕ) (words : List (List ℕ))
    (left old new : Option (List ℕ)) : Type 0 where
  pub bytes : List ℕ
  pub input : IsInput left bytes
  pub written : WritesBeginning old new (model.text options file (model.inputs words bytes))

-- what the words of the options ask for is answered, by the flags that they have
abbrev pub Answers : Options → (file : List ℕ) → (left old new : Option (List ℕ)) → Status → Type 0
Answers options file left old new ended =
    Symbolizes (options_shown options) file (map word_shown options.words.items) left old new ended

-- a beginning of that was written
abbrev pub AnswersBeginning : Options → (file : List ℕ) → (left old new : Option (List ℕ)) → Type 0
AnswersBeginning options file left old new =
    SymbolizesBeginning (options_shown options) file (map word_shown options.words.items) left old new
