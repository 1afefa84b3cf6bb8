use Rattle.std.proofs.Common.{◌≡◌, List, length}
use Rattle.dw_model.specs.Reading.{items}
use Rattle.dw_model.specs.Abbrev.{Declaration, next_declaration}
use Rattle.dw_model.proofs.ItemsLemmas.{with_front}
use Rattle.dw_forms.proofs.store.pass_table.Given as goal

-- the declarations that were passed over, and then those that are left, are all
abbrev pub invariant-loop : goal.invariant-loop
invariant-loop l =
    (passed : List Declaration) × (with_front next_declaration passed (items (λ p. p.left) next_declaration l.cursor) ≡ items (λ p. p.left) next_declaration l.fn.cursor)

abbrev pub decreases-loop : goal.decreases-loop
decreases-loop l = length l.cursor.left
