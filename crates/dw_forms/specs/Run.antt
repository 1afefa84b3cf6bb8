-- Declarations that were read one after the other, and the first of a code among them.
use Rattle.std.specs.Prelude.{◌≡◌, ◌≤◌, ◌<◌, ℕ, true, false, List, Option, Some, None, option_map, slice_get}
use Rattle.std.specs.declared.cmp.Ordering.{Ordering}
use Rattle.std.specs.Ordering.{nat_cmp, ordering_then}
use Rattle.std.specs.BTreeSet as set
use Rattle.dw_model.specs.Abbrev.{Declaration}
use Rattle.dw_forms.specs.declared.declaration.Decl.{Decl}
use Rattle.dw_forms.specs.declared.run.Start.{Start}

-- The declarations of a run, where they begin in .debug_abbrev, and where the table goes on after
-- them; it ends there where it doesn't.
pub record ReadRun : Type 0 where
  pub declarations : List Declaration
  pub offsets : List ℕ
  pub rest : Option Start

-- the code of the declaration at a place
abbrev pub code_at : List Decl → ℕ → Option ℕ
code_at declarations k = option_map (λ declaration. declaration.code) (slice_get declarations k)

-- a code and a place, in order
abbrev pub Coded : Type 0
Coded = ℕ × ℕ

abbrev pub coded_cmp : Coded → Coded → Ordering
coded_cmp x y = ordering_then (nat_cmp x.0 y.0) (nat_cmp x.1 y.1)

-- The codes and the places of the declarations from one on and below another.
pub record ArePlaces (from end : ℕ) (declarations : List Decl) (places : set.BTreeSet Coded) : Type 0 where
  pub sound : (code k : ℕ) → set.contains coded_cmp places (code, k) ≡ true → (from ≤ k) × (k < end)
      × (code_at declarations k ≡ Some code)
  pub complete : (code k : ℕ) → from ≤ k → k < end → code_at declarations k ≡ Some code
      → set.contains coded_cmp places (code, k) ≡ true

-- Of the places of a code from one on, this is the first, or there is none.
abbrev pub IsFirstPlace : set.BTreeSet Coded → (from code : ℕ) → Option ℕ → Type 0
IsFirstPlace places from code None = (k : ℕ) → from ≤ k → set.contains coded_cmp places (code, k) ≡ false
IsFirstPlace places from code (Some k) =
    (set.contains coded_cmp places (code, k) ≡ true) × (from ≤ k)
    × ((j : ℕ) → from ≤ j → set.contains coded_cmp places (code, j) ≡ true → k ≤ j)
