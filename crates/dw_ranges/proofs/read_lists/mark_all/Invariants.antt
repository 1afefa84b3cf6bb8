use Rattle.std.proofs.Common.{◌≡◌, ◌⊎◌, ℕ, Some, take}
use Rattle.std.specs.Prelude.{slice_get}
use Rattle.dw_ranges.specs.ReadLists.{Has}
use Rattle.dw_ranges.proofs.read_lists.mark_all.Given as goal

abbrev pub invariant-loop-begin : goal.invariant-loop-begin
invariant-loop-begin l =
    (k other : ℕ) → slice_get l.marks.items k ≡ Some (Some other) → (Has (take l.begin-index l.begins) k × (l.owner ≡ other)) ⊎ (slice_get l.initial.marks.items k ≡ Some (Some other))
