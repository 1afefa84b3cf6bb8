-- A loop that reads items into a vector, each seen by a view.
use Rattle.std.proofs.Common.{◌≡◌, ℕ, List, [], ◌∷◌, ◌++◌, map, Option, Some, None, Result, Ok, Err, subst, sym, ap, ◌∙◌}
use Rattle.std.specs.Prelude.{option_map, MatchOption}
use Rattle.std.proofs.lemmas.List.{map_push}
use Rattle.dw_model.specs.Reading.{items}
use Rattle.dw_model.specs.Answers.{Tells}
use Rattle.dw_model.proofs.ItemsLemmas.{Advances, with_front, loop_more, loop_done, loop_fault}

module _ {S X A E : Type 0} (view : X → A) (next : S → Result (Option A × S) E) (left : S → List ℕ) (advances : Advances left next) where
  -- what was read so far, and then what is still read, is all
  abbrev pub SoFar : List X → S → Result (List A × S) E → Type 0
  SoFar front s all = with_front next (map view front) (items left next s) ≡ all

  pub goes_on : (front : List X) (found : Option X) (item : X) (s t : S) (all : Result (List A × S) E) → found ≡ Some item → next s ≡ Ok (option_map view found, t) → SoFar front s all → SoFar (front ++ item ∷ []) t all
  goes_on front found item s t all is e so_far =
      let read : next s ≡ Ok (Some (view item), t) = e ∙ ap (λ (found : Option X). Ok (option_map view found, t)) is in
      let more = loop_more next left advances (map view front) (view item) s t all read so_far in
      rw (map_push view front item) more

  pub ends : (front : List X) (found : Option X) (s t : S) (all : Result (List A × S) E) → found ≡ None → next s ≡ Ok (option_map view found, t) → SoFar front s all → all ≡ Ok (map view front, t)
  ends front found s t all is e so_far =
      let read : next s ≡ Ok (None, t) = e ∙ ap (λ (found : Option X). Ok (option_map view found, t)) is in
      loop_done next left advances (map view front) s t all read so_far

  pub smaller : (found : Option X) (item : X) (s t : S) → found ≡ Some item → next s ≡ Ok (option_map view found, t) → next s ≡ Ok (Some (view item), t)
  smaller found item s t is e = e ∙ ap (λ (found : Option X). Ok (option_map view found, t)) is

  pub stops : (front : List X) (s : S) (told own : Option E) (all : Result (List A × S) E) → own ≡ told → Tells told (next s) → SoFar front s all → MatchOption own (Unit {0}) (λ fault. all ≡ Err fault)
  stops front s told own all same fault so_far = subst (λ told. MatchOption told (Unit {0}) (λ fault. all ≡ Err fault)) (sym same) (by_told told fault)
    where
      by_told : (told : Option E) → Tells told (next s) → MatchOption told (Unit {0}) (λ fault. all ≡ Err fault)
      by_told None fault = tt
      by_told (Some e) fault = loop_fault next left advances (map view front) s e all fault so_far
