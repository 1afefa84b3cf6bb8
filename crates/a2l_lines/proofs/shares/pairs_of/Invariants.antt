use Rattle.std.proofs.Common.{◌≡◌, ◌<◌, ℕ, map, get_or, Some, None}
use Rattle.ticket_core.specs.declared.query.Query.{Query}
use Rattle.std.specs.List.{All, Contains}
use Rattle.a2l_lines.specs.Input.{input_shown}
use Rattle.a2l_lines.proofs.shares.pairs_of.Given as goal

abbrev pub invariant-loop-i : goal.invariant-loop-i
invariant-loop-i l =
    let inputs = map input_shown l.inputs in
    record {
      right : All (λ pair. get_or inputs pair.1 None ≡ Some pair.0) l.pairs.items;
      found : (j : ℕ) (query : Query) → j < l.i → get_or inputs j None ≡ Some query → Contains l.pairs.items (query, j);
    }
