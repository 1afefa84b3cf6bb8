-- What is wrong first with a run that ends early.
use Rattle.std.specs.Prelude.{◌≡◌, ◌≢◌, ◌⊎◌, if◌then◌else◌, ℕ, false, List, []}
use Rattle.std.specs.Prelude.{Option, None, IfSome, option_and_then, codes}
use Rattle.clap.specs.Words.{Row, Text, first_of}
use Rattle.dw_model.specs.Faults.{Refusal}
use Rattle.dw_model.specs.Refusal.{refusal, listing_refusal}
use Rattle.dw_elf.specs.OpenFault.{Refuses}
use Rattle.a2l.specs.declared.fault.Fault.{Fault}
use Rattle.a2l.specs.declared.fault.Fault.TheVariants as faults
use Rattle.a2l.specs.CommandLine.{found_in, is_set, words_in}
use Rattle.a2l.specs.Known.{Known, OfFile}
use Rattle.a2l.specs.Named.{NameJob}

-- what is at the path that was found in words, where that is known
abbrev pub named_in : (List ℕ → Known) → List Row → Known
named_in known rows = option_and_then known (first_of (codes "file") rows)

-- why the bytes there are refused, which depends on whether a listing was asked for
abbrev pub refusal_by : List Row → List ℕ → Option Refusal
refusal_by rows file = if is_set (codes "units") rows then listing_refusal file else refusal file

-- the words name a job and, where it is known what is at its path, a file that isn't refused
abbrev pub Begins : (List ℕ → Known) → List Text → Type 0
Begins known words =
    NameJob words × OfFile (named_in known (found_in words)) (λ file. refusal_by (found_in words) file ≡ None)

-- addresses are asked for, and no words name them, so that the input is read
abbrev pub ReadsInput : List Row → Type 0
ReadsInput rows = (is_set (codes "units") rows ≡ false) × (words_in rows ≡ [])

-- The first thing that is wrong: the words, what is at the path that they name, the file there, the
-- reader, or the writer. Without words only the writer can fail. A run may be out of memory
-- whatever else is wrong.
abbrev pub IsFirst : (List ℕ → Known) → List Text → (reader_failed writer_failed : Type 0) → Fault → Type 0
IsFirst known words reader_failed writer_failed faults.CommandLine = (words ≢ []) × ¬ (NameJob words)
IsFirst known words reader_failed writer_failed faults.File =
    NameJob words × IfSome (named_in known (found_in words)) (λ there. there ≡ None)
IsFirst known words reader_failed writer_failed (faults.Refused fault) =
    NameJob words × OfFile (named_in known (found_in words)) (λ file. Refuses fault (refusal_by (found_in words) file))
IsFirst known words reader_failed writer_failed faults.Read =
    Begins known words × ReadsInput (found_in words) × reader_failed
IsFirst known words reader_failed writer_failed faults.Write = ((words ≡ []) ⊎ Begins known words) × writer_failed
IsFirst known words reader_failed writer_failed faults.Memory = Unit {0}
