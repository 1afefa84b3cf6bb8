use Rattle.std.proofs.Common.{◌≡◌, ◌<◌, ℕ, length}
use Rattle.std.specs.List.{All, Contains}
use Rattle.a2l_lines.proofs.plan.order_of.Given as goal

abbrev pub invariant-loop-i : goal.invariant-loop-i
invariant-loop-i l = record {
  len : length l.order.items ≡ l.i;
  within : All (λ pair. pair.1 < length l.queries) l.order.items;
  all : (j : ℕ) → j < l.i → (turn : ℕ × ℕ) × Contains l.order.items (turn, j);
}
