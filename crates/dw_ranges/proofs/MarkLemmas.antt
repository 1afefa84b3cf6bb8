-- Places that are marked, where lists begin that were read.
use Rattle.std.proofs.Common.{◌≤◌, ◌-◌, ◌≡◌, ◌⊎◌, ℕ, zero, suc, ◌+◌, List, [], ◌∷◌, ◌++◌, replicate, Option, Some, None, arith}
use Rattle.std.specs.Prelude.{slice_get}
use Rattle.std.proofs.lemmas.Option.{slice_get_read}
use Rattle.dw_ranges.specs.declared.range_list.RangeList.{RangeList}
use Rattle.dw_ranges.specs.ReadLists.{Has}
use Rattle.dw_ranges.specs.ReadListsInside.{marked_from}
use Rattle.dw_ranges.specs.Tails.{tail_at}
use Rattle.dw_ranges.proofs.ReadLemmas.{has_front, has_back, has_parts}

abbrev pub list_at : ℕ → Option ℕ → Option ℕ → ℕ → RangeList × ℕ
list_at begin base addr owner = (record { begin = begin; base = base; addr = addr }, owner)

pub marked-has : (marks : List (Option ℕ)) (k begin : ℕ) (base addr : Option ℕ) (owner : ℕ) → slice_get marks k ≡ Some (Some owner) → Has (marked_from begin base addr marks) (list_at (begin + k) base addr owner)
unfolding marked_from
marked-has [] k begin base addr owner e = grind arith
marked-has (mark ∷ marks) k begin base addr owner e = grind (arith, (λ (k : ℕ). marked-has marks k (begin + 1) base addr owner))

pub has-marked : (marks : List (Option ℕ)) (begin : ℕ) (base addr : Option ℕ) (known : RangeList × ℕ) → Has (marked_from begin base addr marks) known → (begin ≤ known.0.begin) × (slice_get marks (known.0.begin - begin) ≡ Some (Some known.1)) × (known ≡ list_at known.0.begin base addr known.1)
unfolding marked_from
has-marked [] begin base addr known h = grind arith
has-marked (mark ∷ marks) begin base addr known h = grind (arith, (has-marked marks (begin + 1) base addr known))

none-marked : (n begin : ℕ) (base addr : Option ℕ) (read : RangeList × ℕ) → Has (marked_from begin base addr (replicate n None)) read → ⊥
unfolding marked_from
none-marked zero begin base addr read h = grind arith
none-marked (suc n) begin base addr read h = grind (arith, (none-marked n))

-- a list that begins at a place that is marked with its owner
pub marked_list : (marks : List (Option ℕ)) (base addr : Option ℕ) (list : RangeList) (owner : ℕ) → slice_get marks list.begin ≡ Some (Some owner) → base ≡ list.base → addr ≡ list.addr → Has (marked_from 0 base addr marks) (list, owner)
marked_list marks base addr list owner e same_base same_addr = grind (arith, (marked-has marks list.begin 0 base addr owner e))

-- where no place is marked, there is no such list
pub fresh : (front old : List (RangeList × ℕ)) (size : ℕ) (marks : List (Option ℕ)) (base addr : Option ℕ) (read : RangeList × ℕ) → marks ≡ replicate size None → Has (front ++ marked_from 0 base addr marks) read → Has (front ++ old) read
fresh front old size marks base addr read none h = grind (arith, has_parts, has_front, (none-marked size 0 base addr read))

-- the lists that begin at places that were marked
pub tails-noted : (front : List (RangeList × ℕ)) (marks more : List (Option ℕ)) (base addr : Option ℕ) (list : RangeList) (owner : ℕ) (begins : List ℕ) (read : RangeList × ℕ) → base ≡ list.base → addr ≡ list.addr → ((k other : ℕ) → slice_get more k ≡ Some (Some other) → (Has begins k × (owner ≡ other)) ⊎ (slice_get marks k ≡ Some (Some other)))
    → Has (front ++ marked_from 0 base addr more) read → ((begin : ℕ) × Has begins begin × (read ≡ (tail_at list begin, owner))) ⊎ Has (front ++ marked_from 0 base addr marks) read
tails-noted front marks more base addr list owner begins read same_base same_addr told h = grind (arith, has_parts, has_front, has_back, (has-marked more 0 base addr read), (told read.0.begin read.1), (marked-has marks read.0.begin 0 base addr read.1))

-- a list that begins at a place that is read and is marked
pub ruleset tail_steps = (slice_get_read, marked_list, has_back)
