-- Items are passed over one after the other, as a loop does.
use Rattle.std.proofs.Common.{◌≡◌, ℕ, Bool, true, false, List, Option, Some, None, Result, Ok, Err, ap, arith}
use Rattle.std.specs.Prelude.{is_some}
use Rattle.dw_model.specs.Reading.{Place, made, items}
use Rattle.dw_model.specs.Answers.{Tells}
use Rattle.dw_model.proofs.StepLemmas.{ok_is, ok-err}
use Rattle.dw_model.proofs.ItemsLemmas.{Advances, with_front, loop_fault}

-- a fault ends the loop, and it is told of all
pub told-stops : {S A E : Type 0} (next : S → Result (Option A × S) E) (left : S → List ℕ) (advances : Advances left next) (front : List A) (s : S) (told own : Option E) (all : Result (List A × S) E) → own ≡ told → Tells told (next s)
    → with_front next front (items left next s) ≡ all → Tells own all
told-stops next left advances front s told own all same fault so_far = grind (arith, loop_fault)

-- ---- whether an item was read, and not which

pub made-fault : {A E : Type 0} (read : Result (Option A × Place) E) (told : Option E) → Tells told (made (λ found. is_some found) read) → Tells told read
made-fault read told fault = grind (arith, ok-err)

pub made-some : {A E : Type 0} (read : Result (Option A × Place) E) (t : Place) → made (λ found. is_some found) read ≡ Ok (true, t) → (item : A) × (read ≡ Ok (Some item, t))
made-some (Err e) t h = absurd cc
made-some (Ok (None, s)) t h = let no : false ≡ true = ap (λ (x : Bool × Place). x.0) (ok_is (false, s) (true, t) h) in absurd cc
made-some (Ok (Some item, s)) t h =
    let same : s ≡ t = ap (λ (x : Bool × Place). x.1) (ok_is (true, s) (true, t) h) in
    (item, ap (λ (t : Place). Ok (Some item, t)) same)

pub made-none : {A E : Type 0} (read : Result (Option A × Place) E) (t : Place) → made (λ found. is_some found) read ≡ Ok (false, t) → read ≡ Ok (None, t)
made-none read t h = grind (arith, ok_is)

-- ---- what an error tells hides no fault
