-- The ranges of a list by what they count from.
use Rattle.std.specs.Prelude.{◌≡◌, ℕ, ◌-◌, nat_le, Bool, false, cond, not, ◌&&◌, ◌||◌, ◌==◌, is_some}
use Rattle.std.specs.Prelude.{List, length, Option, Some, None}
use Rattle.std.specs.Option.{option_map_or, unwrap_or}
use Rattle.dw_model.specs.Steady.{last_address}
use Rattle.dw_model.specs.Ranges.{Range, RangeEntry, offset_pair, covers}

-- The base from which ranges are counted of a list with a base, which may not be there: where no
-- entry counts from it, any serves.
abbrev pub base_by : (is_counted : Bool) → Option ℕ → Option ℕ
base_by is_counted base = cond is_counted base (Some (unwrap_or base 0))

-- the offsets of an entry that counts from the list's own base, since no entry has set another
abbrev pub own_offsets : Option ℕ → RangeEntry → Option (ℕ × ℕ)
own_offsets None (offset_pair start end) = Some (start, end)
own_offsets _ _ = None

-- There is an end that is an address, counted from a base.
abbrev pub is_within : ℕ → Option ℕ → Bool
is_within base end = option_map_or (λ end. nat_le end (last_address - base)) end false

-- Ranges that are counted from a base hold an address, by the least end of those that hold an
-- offset.
abbrev pub counts_at : (least_end : ℕ → Option ℕ) → (base a : ℕ) → Bool
counts_at least_end base a = nat_le base a && is_within base (least_end (a - base))

-- A base is no later than the last one from which there are ranges.
abbrev pub reaches : Option ℕ → ℕ → Bool
reaches last base = option_map_or (nat_le base) last false

-- From a base there are just these ranges: some that are the same from each base, and some that are
-- counted from it.
pub record Makes (fixed least_end : ℕ → Option ℕ) (last : Option ℕ) (base : ℕ) (ranges : List Range) : Type 0 where
  pub holds : (a : ℕ) → covers a ranges ≡ (is_some (fixed a) || counts_at least_end base a)
  pub some : (length ranges == 0) ≡ not (reaches last base)
