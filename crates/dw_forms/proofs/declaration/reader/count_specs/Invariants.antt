use Rattle.std.proofs.Common.{◌≡◌, ◌≤◌, ◌+◌, List, length}
use Rattle.dw_model.specs.Reading.{items}
use Rattle.dw_model.specs.Abbrev.{Specification, next_specification}
use Rattle.dw_model.proofs.ItemsLemmas.{with_front}
use Rattle.dw_forms.proofs.declaration.reader.count_specs.Given as goal

-- the pairs that were counted, and then those that are left, are all; each took a byte at least
abbrev pub invariant-loop-ahead : goal.invariant-loop-ahead
invariant-loop-ahead l =
    (passed : List Specification) × (with_front next_specification passed (items (λ p. p.left) next_specification l.ahead) ≡ items (λ p. p.left) next_specification l.fn.cursor) × (length passed ≡ l.count) × (l.count + length l.ahead.left ≤ l.most)

abbrev pub decreases-loop-ahead : goal.decreases-loop-ahead
decreases-loop-ahead l = length l.ahead.left
