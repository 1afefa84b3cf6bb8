-- What a report comes to.
use Rattle.std.specs.Prelude.{◌≡◌, ℕ, true, false, List, [], Option, None}
use Rattle.std.specs.List.{list_all}
use Rattle.dw_model.specs.Answer.{Answer}
use Rattle.dw_model.specs.Faults.{Refusal}
use Rattle.dw_elf.specs.OpenFault.{Refuses}
use Rattle.a2l_why.specs.Document.{IsDocument}
use Rattle.a2l_why.specs.Page.{AddsReports}
use Rattle.a2l_why.specs.Told.{is_answered}
use Rattle.a2l_why.specs.declared.report.Form.{Form}
use Rattle.a2l_why.specs.declared.report.Form.TheVariants.{Page, Document}
use Rattle.a2l_why.specs.declared.report.Outcome.{Outcome}
use Rattle.a2l_why.specs.declared.report.Outcome.TheVariants.{Clean, Findings, Refused}

-- a report has a refusal exactly where there is one, and has just that one
abbrev pub TellsRefusal : Outcome → Option Refusal → Type 0
TellsRefusal Clean refusal = refusal ≡ None
TellsRefusal Findings refusal = refusal ≡ None
TellsRefusal (Refused fault) refusal = Refuses fault refusal

-- Of a report on texts that have these answers: it is clean exactly where the file isn't refused
-- and each text is answered.
abbrev pub IsOutcome : Outcome → Option Refusal → List (Option Answer) → Type 0
IsOutcome Clean refusal answers = (refusal ≡ None) × (list_all is_answered answers ≡ true)
IsOutcome Findings refusal answers = (refusal ≡ None) × (list_all is_answered answers ≡ false)
IsOutcome (Refused fault) refusal answers = Refuses fault refusal

-- the page, or the document, of texts with these lines
abbrev pub IsTextIn : Form → (words lines : List (List ℕ)) (text : List ℕ) → Type 0
IsTextIn Page words lines text = AddsReports words lines [] text
IsTextIn Document words lines text = IsDocument words lines text

-- where the file isn't refused, the report on texts with these lines has them all
abbrev pub TellsAll : Outcome → Form → (words lines : List (List ℕ)) (text : List ℕ) → Type 0
TellsAll (Refused fault) form words lines text = Unit {0}
TellsAll Clean form words lines text = IsTextIn form words lines text
TellsAll Findings form words lines text = IsTextIn form words lines text
