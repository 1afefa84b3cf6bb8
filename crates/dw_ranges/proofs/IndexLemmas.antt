-- What an index finds of its list.
use Rattle.std.proofs.Common.{◌≡◌, ◌∙◌, ℕ, ◌<◌, ◌^◌, List, [], Option, Some, None, Result, Ok, Err, sym, ap, subst}
use Rattle.std.specs.Prelude.{◌||◌, is_some}
use Rattle.std.specs.Result.{result_unwrap_or}
use Rattle.dw_model.specs.Faults.{Bad, bad}
use Rattle.dw_model.specs.Ranges.{Range, covers}
use Rattle.dw_index.specs.Segments.{owner_at}
use Rattle.dw_ranges.specs.declared.list_index.ListIndex.TheInside.{Inside}
use Rattle.dw_ranges.specs.ListIndex.{IndexedList, listed_from, ranges_by}
use Rattle.dw_ranges.specs.Parts.{Makes, counts_at}
use Rattle.dw_ranges.specs.PartsInside.{IsFound, IsListIndex, base_for, indexed_of}

module _ (index : Inside) (now : IndexedList) (view : indexed_of index ≡ now) (is : IsListIndex index) (first from : Option ℕ) (by : from ≡ base_for index.readable first) where
  found : (given : Option ℕ) → from ≡ given → IsFound index first given
  found given e = subst (IsFound index first) (sym by ∙ e) (is first)

  pub unreadable : from ≡ None → ranges_by now first ≡ Err bad
  unreadable e = ap (λ (indexed : IndexedList). ranges_by indexed first) (sym view) ∙ found None e

  pub none_listed : from ≡ None → listed_from now first ≡ []
  none_listed e = ap (λ (read : Result (List Range) Bad). result_unwrap_or read []) (unreadable e)

  module _ (base : ℕ) (e : from ≡ Some base) (small : base < 2 ^ 64) where
    pub ranges : List Range
    ranges = (found (Some base) e).0

    pub readable : ranges_by now first ≡ Ok ranges
    unfolding ranges found
    readable = ap (λ (indexed : IndexedList). ranges_by indexed first) (sym view) ∙ (found (Some base) e).1

    pub makes : Makes (owner_at index.fixed) (owner_at index.counted) index.last_base base ranges
    unfolding ranges found
    makes = (found (Some base) e).2 small

    pub held : (a : ℕ) → covers a (listed_from now first) ≡ (is_some (owner_at index.fixed a) || counts_at (owner_at index.counted) base a)
    held a = ap (λ (read : Result (List Range) Bad). covers a (result_unwrap_or read [])) readable ∙ makes.holds a

-- what is told of the ranges from a base
pub ruleset told_steps = (unreadable, ranges, readable, makes)
