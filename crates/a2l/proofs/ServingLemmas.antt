-- Doing what was asked for, by the file that was loaded.
use Rattle.std.proofs.Common.{◌≡◌, ◌∙◌, inl, inr, ℕ, Bool, true, false, List, Option, Some, None, Result, Ok, Err, refl, sym, subst}
use Rattle.std.specs.Prelude.{IfOk, OnOk, codes}
use Rattle.std.specs.Io.KnownBytes.{append_known}
use Rattle.clap.specs.Words.{Row, Text, first_of}
use Rattle.dw_model.specs.Refusal.{refusal, listing_refusal}
use Rattle.dw_model.specs.Output.{Options, listing}
use Rattle.a2l_lines.specs.declared.symbolizer.Status.{Status}
use Rattle.a2l_lines.specs.Symbolize.{Symbolizes}
use Rattle.a2l.specs.CommandLine.{is_set, options_in, words_in}
use Rattle.a2l.specs.Known.{Known, OfFile}
use Rattle.a2l.specs.Serving.{ServesFound, number_of}

-- what holds of what was loaded holds of the file, where that is known
pub if_known : (known : Known) (loaded : List ℕ) (P : List ℕ → Type 0) → OfFile known (λ file. loaded ≡ file) → P loaded → OfFile known P
if_known None loaded P same h = tt
if_known (Some None) loaded P same h = absurd same
if_known (Some (Some file)) loaded P same h = subst P same h

abbrev Answers : Options → List Text → (left old new : Option (List ℕ)) → Status → List ℕ → Type 0
Answers options words left old new ended file = (refusal file ≡ None) × Symbolizes options file words left old new ended

pub answers-loaded : {E Named : Type 0} → Named → (r : Result Status E) (known : List ℕ → Known) (rows : List Row) (units : Bool) (path loaded : List ℕ) (options : Options) (words : List Text) (left old new : Option (List ℕ)) → first_of (codes "file") rows ≡ Some path
    → units ≡ is_set (codes "units") rows → units ≡ false → options ≡ options_in rows → words ≡ words_in rows → OfFile (known path) (λ file. loaded ≡ file)
    → OnOk r (refusal loaded ≡ None) → IfOk r (Symbolizes options loaded words left old new) → IfOk r (λ status. Named × ServesFound known rows left old new (number_of status))
answers-loaded job (Err e) known rows units path loaded options words left old new named are not_asked as_asked asked same accepted written = tt
answers-loaded job (Ok status) known rows units path loaded options words left old new named are not_asked as_asked asked same accepted written =
    let here = subst (λ (options : Options). Symbolizes options loaded words left old new status) as_asked written in
    let there = subst (λ (words : List Text). Symbolizes (options_in rows) loaded words left old new status) asked here in
    (job, (path, named, inr (sym are ∙ not_asked, status, refl, if_known (known path) loaded (Answers (options_in rows) (words_in rows) left old new status) same (accepted, there))))

abbrev Lists : (old new : Option (List ℕ)) → List ℕ → Type 0
Lists old new file = (listing_refusal file ≡ None) × (new ≡ append_known old (listing file))

pub lists-loaded : (known : List ℕ → Known) (rows : List Row) (units : Bool) (path loaded : List ℕ) (left old new : Option (List ℕ)) → first_of (codes "file") rows ≡ Some path → units ≡ is_set (codes "units") rows → units ≡ true
    → OfFile (known path) (λ file. loaded ≡ file) → listing_refusal loaded ≡ None → new ≡ append_known old (listing loaded) → ServesFound known rows left old new 0
lists-loaded known rows units path loaded left old new named are asked same accepted written =
    (path, named, inl (sym are ∙ asked, if_known (known path) loaded (Lists old new) same (accepted, written), refl))
