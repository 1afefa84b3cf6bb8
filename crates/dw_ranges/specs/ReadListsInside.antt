-- What the range lists that were read are seen as.
use Rattle.std.specs.Prelude.{ℕ, ◌+◌, List, [], ◌∷◌, ◌++◌, Option, Some, None}
use Rattle.std.specs.BTreeMap.{values}
use Rattle.dw_ranges.specs.declared.range_list.RangeList.{RangeList}
use Rattle.dw_ranges.specs.declared.read_lists.ReadLists.TheInside.{Inside}

-- the lists that begin at the places that are marked, of which the first is this one, each with its
-- owner
unfoldable pub marked_from : ℕ → Option ℕ → Option ℕ → List (Option ℕ) → List (RangeList × ℕ)
marked_from begin base addr [] = []
marked_from begin base addr (Some owner ∷ marks) =
    (record { begin = begin; base = base; addr = addr }, owner) ∷ marked_from (begin + 1) base addr marks
marked_from begin base addr (None ∷ marks) = marked_from (begin + 1) base addr marks

abbrev pub reads_of : Inside → List (RangeList × ℕ)
reads_of reads = values reads.read ++ marked_from 0 reads.base reads.addr reads.marks.items
