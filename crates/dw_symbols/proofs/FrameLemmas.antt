-- The frames of functions, one after the other.
use Rattle.std.proofs.Common.{◌≡◌, ℕ, ◌+◌, ◌<◌, ◌≤◌, List, [], ◌∷◌, ◌++◌, length, drop, Option, Some, None, append_assoc, arith}
use Rattle.std.specs.Prelude.{slice_get}
use Rattle.std.proofs.lemmas.List.{append-nil, drop_all, drop_more}
use Rattle.std.proofs.lemmas.Option.{get_or_from_slice_get, slice_get_within}
use Rattle.dw_model.specs.Answer.{Frame, Location, Lines}
use Rattle.dw_frames.specs.Told.{Told}
use Rattle.dw_symbols.specs.Frames.{called_at, frames_on, frames_told}

-- the frames so far, and then those from a location and a place on, are all
abbrev pub SoFar : Option Lines → List Told → ℕ → List Frame → (here first : Location) → Type 0
SoFar lines functions k front here first = front ++ frames_on lines here (drop k functions) ≡ frames_on lines first functions

pub goes_on : (lines : Option Lines) (functions : List Told) (k : ℕ) (told : Told) (front : List Frame) (here first next : Location) → slice_get functions k ≡ Some told → next ≡ called_at lines told.call
    → SoFar lines functions k front here first → SoFar lines functions (k + 1) (front ++ record { name = told.name; location = here } ∷ []) next first
goes_on lines functions k told front here first next there is so_far =
    grind (arith, drop_more functions k told, slice_get_within functions k told there, get_or_from_slice_get functions k told told there, append_assoc)

pub ends : (lines : Option Lines) (functions : List Told) (k : ℕ) (front : List Frame) (here first : Location) → 0 < length functions → length functions ≤ k → SoFar lines functions k front here first → front ≡ frames_told lines first functions
ends lines functions k front here first some past so_far = grind (arith, drop_all, append-nil)

pub no-frames : (lines : Option Lines) (functions : List Told) (first : Location) → length functions ≡ 0 → record { name = None; location = first } ∷ [] ≡ frames_told lines first functions
no-frames lines functions first none = grind arith
