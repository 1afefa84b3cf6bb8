-- What a run that is served writes.
use Rattle.std.specs.Prelude.{◌≡◌, ◌⊎◌, ℕ, true, false, List, Option, Some, None, codes}
use Rattle.clap.specs.Words.{Row, Text, first_of}
use Rattle.dw_model.specs.Refusal.{refusal}
use Rattle.dw_model.specs.Output.{Options}
use Rattle.a2l_lines.specs.Symbolize.{Symbolizes}
use Rattle.a2l_lines.specs.declared.symbolizer.Status.{Status}
use Rattle.a2l_lines.specs.declared.symbolizer.Status.TheVariants.{Clean, Faults}
use Rattle.a2l.specs.CommandLine.{found_in, is_set, options_in, words_in}
use Rattle.a2l.specs.Known.{Known, OfFile}
use Rattle.a2l.specs.Listing.{ListsAt}
use Rattle.a2l.specs.Named.{NameJob}

-- the status of the program
abbrev pub number_of : Status → ℕ
number_of Clean = 0
number_of Faults = 1

-- the file at a path is accepted, and what some words or the reader ask for was answered by it
abbrev pub SymbolizesAt : (List ℕ → Known) → (path : List ℕ) → Options → (words : List Text)
    → (left old new : Option (List ℕ)) → Status → Type 0
SymbolizesAt known path options words left old new ended =
    OfFile (known path) (λ file. (refusal file ≡ None) × Symbolizes options file words left old new ended)

-- Where a listing was asked for, the units of the named file were listed; else its answers were
-- written.
abbrev pub ServesFound : (List ℕ → Known) → List Row → (left old new : Option (List ℕ)) → ℕ → Type 0
ServesFound known rows left old new status =
    (path : List ℕ) × (first_of (codes "file") rows ≡ Some path)
    × (((is_set (codes "units") rows ≡ true) × ListsAt known path old new × (status ≡ 0))
    ⊎ ((is_set (codes "units") rows ≡ false) × (ended : Status) × (status ≡ number_of ended)
    × SymbolizesAt known path (options_in rows) (words_in rows) left old new ended))

-- the words name a job, and it was done
abbrev pub Serves : (List ℕ → Known) → (words : List Text) → (left old new : Option (List ℕ)) → ℕ → Type 0
Serves known words left old new status = NameJob words × ServesFound known (found_in words) left old new status
