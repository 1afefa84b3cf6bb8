-- What is wrong first, from what went wrong in a part of a run.
use Rattle.std.proofs.Common.{◌≡◌, ◌≢◌, ◌∙◌, inl, inr, ℕ, ◌<◌, Bool, false, List, [], ◌∷◌, map, Option, None, Result, Err, refl, sym, ap, subst, arith}
use Rattle.std.specs.Prelude.{IfErr, IfSome, option_and_then, codes, if◌then◌else◌}
use denote.Ref.{Bor}
use Rattle.clap.specs.Words.{Row, Text}
use Rattle.dw_model.specs.Refusal.{refusal, listing_refusal}
use Rattle.dw_elf.specs.OpenFault.{Refuses}
use Rattle.a2l_lines.specs.Input.{word_shown}
use Rattle.a2l_lines.specs.declared.file.LoadFault.{LoadFault}
use Rattle.a2l_lines.specs.declared.file.LoadFault.TheVariants as load_faults
use Rattle.a2l.specs.declared.command.Job.{Job}
use Rattle.a2l.specs.declared.fault.Fault.{Fault}
use Rattle.a2l.specs.declared.fault.Fault.TheVariants as faults
use Rattle.a2l.specs.CommandLine.{found_in, is_set, words_in}
use Rattle.a2l.specs.Conversions.{fault_of_load}
use Rattle.a2l.specs.Ending.{Begins, IsFirst, ReadsInput, named_in, refusal_by}
use Rattle.a2l.specs.Fault.{EndsBadly, FailsOver, Reports}
use Rattle.a2l.specs.Known.{Known, OfFile}
use Rattle.a2l.specs.Named.{IsNamed, NameJob}
use Rattle.a2l.proofs.ServingLemmas.{if_known}

-- what refuses a file, where a listing was asked for and where not
pub refusal-by : (rows : List Row) (file : List ℕ) (units asked : Bool) → units ≡ is_set (codes "units") rows → units ≡ asked → (if asked then listing_refusal file else refusal file) ≡ refusal_by rows file
refusal-by rows file units asked are is = ap (λ (units : Bool). if units then listing_refusal file else refusal file) (sym is ∙ are)

-- a reader that failed was read, so no words were given
pub was-read : {X : Type 0} (count : X → ℕ) (old new : X) (rows : List Row) (words : List (Bor Text)) (units : Bool) → units ≡ is_set (codes "units") rows → units ≡ false → map word_shown words ≡ words_in rows → (words ≢ [] → new ≡ old)
    → count old < count new → ReadsInput rows × (count old < count new)
was-read count old new rows [] units are asked shown stays failed = ((sym are ∙ asked, sym shown), failed)
was-read count old new rows (word ∷ words) units are asked shown stays failed =
    let same : new ≡ old = stays (λ none. cc) in
    let more : count old < count old = subst (λ x. count old < count x) same failed in
    absurd (omega (arith, more))

-- what is reported instead of a fault is out of memory
pub reported : (Why : Fault → Type 0) (fault : Fault) (status : ℕ) (old new : Option (List ℕ)) (before after : ℕ) → Why fault → Why faults.Memory → Reports fault status old new before after → EndsBadly Why status old new before after
reported Why fault status old new before after why memory (told, inl same, is, tells) = (told, subst Why (sym same) why, is, tells)
reported Why fault status old new before after why memory (told, inr same, is, tells) = (told, subst Why (sym same) memory, is, tells)

-- what holds of a fault holds of the result that has it
pub told : {T : Type 0} (Why : Fault → Type 0) (r : Result T Fault) (fault : Fault) → r ≡ Err fault → Why fault → IfErr r Why
told Why r fault is why = subst (λ r. IfErr r Why) (sym is) why

module _ (known : List ℕ → Known) (words : List Text) (reader_failed writer_failed : Type 0) where
  abbrev First : Fault → Type 0
  First = IsFirst known words reader_failed writer_failed

  at_path : (P : Known → Type 0) (job : Job) → IsNamed words job → P (known job.file.now) → P (named_in known (found_in words))
  at_path P job named h = subst (λ (path : Option Text). P (option_and_then known path)) (sym named.file) h

  pub unloaded : (fault : LoadFault) (job : Job) → IsNamed words job → (fault ≡ load_faults.Device → IfSome (known job.file.now) (λ there. there ≡ None)) → First (fault_of_load fault)
  unloaded load_faults.Device job named none = ((job, named), at_path (λ there. IfSome there (λ file. file ≡ None)) job named (none refl))
  unloaded load_faults.Memory job named none = tt

  -- of a file that was loaded
  of_loaded : (job : Job) (loaded : List ℕ) (P : List ℕ → Type 0) → IsNamed words job → OfFile (known job.file.now) (λ file. loaded ≡ file) → P loaded → NameJob words × OfFile (named_in known (found_in words)) P
  of_loaded job loaded P named same h =
      ((job, named), at_path (λ there. OfFile there P) job named (if_known (known job.file.now) loaded P same h))

  begins : (job : Job) (loaded : List ℕ) → IsNamed words job → OfFile (known job.file.now) (λ file. loaded ≡ file) → refusal_by (found_in words) loaded ≡ None → Begins known words
  begins job loaded = of_loaded job loaded (λ file. refusal_by (found_in words) file ≡ None)

  pub unserved : (fault : Fault) (job : Job) (loaded : List ℕ) (Failed : Type 0) → (Failed → ReadsInput (found_in words) × reader_failed) → IsNamed words job → OfFile (known job.file.now) (λ file. loaded ≡ file) → FailsOver (refusal_by (found_in words) loaded) Failed writer_failed fault → First fault
  unserved faults.CommandLine job loaded Failed failed named same fails = absurd fails
  unserved faults.File job loaded Failed failed named same fails = absurd fails
  unserved (faults.Refused fault) job loaded Failed failed named same fails =
      of_loaded job loaded (λ file. Refuses fault (refusal_by (found_in words) file)) named same fails
  unserved faults.Read job loaded Failed failed named same fails =
      let read = failed fails.1 in
      (begins job loaded named same fails.0, read.0, read.1)
  unserved faults.Write job loaded Failed failed named same fails = (inr (begins job loaded named same fails.0), fails.1)
  unserved faults.Memory job loaded Failed failed named same fails = tt
