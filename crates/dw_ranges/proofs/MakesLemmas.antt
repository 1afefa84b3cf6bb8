-- One range more of a list, by what it counts from.
use Rattle.std.proofs.Common.{◌≡◌, ℕ, ◌+◌, ◌-◌, ◌<◌, ◌^◌, List, [], ◌∷◌, ◌++◌, map, Option, Some, arith}
use Rattle.std.specs.Prelude.{◌||◌, ◌&&◌, nat_le, option_map, option_to_list}
use Rattle.std.proofs.lemmas.Bool.Decides.{nat_tests}
use Rattle.std.proofs.lemmas.List.{append-nil, length-append, map-append}
use Rattle.std.proofs.lemmas.List.Folds.{list_any-append}
use Rattle.dw_model.specs.Ranges.{Range, range, covers}
use Rattle.dw_model.specs.Steady.{last_address}
use Rattle.dw_index.specs.declared.range.Range.{Range as CodeRange}
use Rattle.dw_index.specs.Owners.{least, least_owner, owner_in}
use Rattle.dw_index.specs.Range.{pair_shown, range_shown}
use Rattle.dw_index.proofs.OwnerLemmas.{least-none, least_owner-append}
use Rattle.dw_ranges.specs.Parts.{Makes, is_within, reaches}
use Rattle.dw_ranges.specs.Step.{kept}

abbrev pub owner_by : List (CodeRange × ℕ) → ℕ → Option ℕ
owner_by pairs a = least_owner (map pair_shown pairs) a

-- the least owner, with one range more
pub owner-one : (pairs : List (CodeRange × ℕ)) (one : CodeRange × ℕ) (a : ℕ) → owner_by (pairs ++ one ∷ []) a ≡ least (owner_by pairs a) (owner_in a (pair_shown one))
unfolding least_owner
owner-one pairs one a = grind (arith, map-append, least_owner-append, least-none)

-- ---- a range that is the same from each base

pub makes-fixed : (fixed : List (CodeRange × ℕ)) (least_end : ℕ → Option ℕ) (last : Option ℕ) (one : CodeRange) (base : ℕ) (ranges : List Range) → base < 2 ^ 64 → Makes (owner_by fixed) least_end last base ranges
    → Makes (owner_by (fixed ++ (one, 0) ∷ [])) least_end (Some last_address) base (ranges ++ range_shown one ∷ [])
makes-fixed fixed least_end last one base ranges small makes = grind (arith, nat_tests, list_any-append, owner-one, length-append)

-- ---- a range that is counted from it

within-least : (base : ℕ) (x y : Option ℕ) → is_within base (least x y) ≡ (is_within base x || is_within base y)
within-least base x y = grind (arith, nat_tests)

module _ (start end base : ℕ) (some : start < end) (address : end < 2 ^ 64) (small : base < 2 ^ 64) where
  abbrev here : Range
  here = range (base + start) (base + end)

  abbrev own : Range
  own = range start end

  covered-one : (a : ℕ) → covers a (option_to_list (kept here)) ≡ (nat_le base a && is_within base (owner_in (a - base) (own, end)))
  covered-one a = grind (arith, nat_tests)

  pub makes-counted : (fixed : ℕ → Option ℕ) (counted : List (CodeRange × ℕ)) (last new : Option ℕ) (one : CodeRange) (ranges : List Range) → range_shown one ≡ own → ((b : ℕ) → reaches new b ≡ (reaches last b || nat_le b (last_address - end)))
      → Makes fixed (owner_by counted) last base ranges → Makes fixed (owner_by (counted ++ (one, end) ∷ [])) new base (ranges ++ option_to_list (kept here))
  makes-counted fixed counted last new one ranges is reach makes = grind (arith, list_any-append, owner-one, within-least, covered-one, nat_tests, length-append, append-nil)

-- ---- no range

pub between-some : (start end : ℕ) (found : Option CodeRange) (one : CodeRange) → found ≡ Some one → option_map range_shown found ≡ kept (range start end) → (start < end) × (range_shown one ≡ range start end)
between-some start end found one some is = grind (arith, nat_tests)
