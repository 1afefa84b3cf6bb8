-- What a document of reports on texts says.
use Rattle.std.specs.Prelude.{◌≡◌, ◌≤◌, ℕ, List, [], ◌∷◌, ◌++◌, Some, codes}
use Rattle.std.specs.Str.Lossy.{utf8_lossy}
use Rattle.serde_json.specs.Data.{Data, string, array, object, Members, depth}
use Rattle.serde_json.specs.Find.{get}
use Rattle.serde_json.specs.Read.{read, max_depth}
use Rattle.serde_json.specs.View.{items_of}

-- the text is a line that reads as an object of these members, if these aren't too deep for a
-- reader
abbrev pub IsTextOf : Members → (text : List ℕ) → Type 0
IsTextOf members text =
    (line : List ℕ) × (text ≡ line ++ codes "\n")
    × (depth (object members) ≤ max_depth → read line ≡ Some (object members))

-- an object has this text under a name
abbrev pub HasText : (name text : List ℕ) → Data → Type 0
HasText name text value = get name value ≡ Some (string text)

-- it is the report on a text: it has the text, and its lines
abbrev pub IsReportOn : (word lines : List ℕ) → Data → Type 0
IsReportOn word lines value = HasText (codes "asked") word value × HasText (codes "lines") (utf8_lossy lines) value

-- the reports on texts with these lines were added, each behind the one before, and nothing else
abbrev pub AddsReportValues : (words lines : List (List ℕ)) (before after : List Data) → Type 0
AddsReportValues [] lines before after = after ≡ before
AddsReportValues (word ∷ words) [] before after = after ≡ before
AddsReportValues (word ∷ words) (line ∷ lines) before after =
    (value : Data) × IsReportOn word line value × AddsReportValues words lines (before ++ value ∷ []) after

-- the document of texts with these lines has the report on each, in their order
pub record IsDocument (words lines : List (List ℕ)) (text : List ℕ) : Type 0 where
  pub members : Members
  pub reports : List Data
  pub is_text : IsTextOf members text
  pub asked : get (codes "asked") (object members) ≡ Some (array (items_of reports))
  pub are_reports : AddsReportValues words lines [] reports
