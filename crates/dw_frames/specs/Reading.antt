-- What a reader of a unit's functions is seen as.
use Rattle.std.specs.Prelude.{ℕ, List}
use Rattle.dw_model.specs.Ranges.{Range}
use Rattle.dw_ranges.specs.declared.range_list.RangeList.{RangeList}
use Rattle.dw_frames.specs.UnitIn.{UnitIn}

-- The unit; the ranges of the list that was read last, and the places where lists begin that end as
-- it does; and the lists whose addresses earlier functions own, each with the group.
pub record Reading : Type 0 where
  pub of : UnitIn
  pub ranges : List Range
  pub begins : List ℕ
  pub owned : List (RangeList × ℕ)
