use Rattle.std.proofs.Common.{◌-◌, ◌+◌, ◌^◌, ◌≤◌, ◌<◌, ℕ, length}
use Rattle.dw_index.specs.Segments.{begin_at}
use Rattle.dw_index.proofs.CountLemmas.{Suffices, Needs}
use Rattle.dw_index.proofs.search.count_passed.Given as goal

abbrev pub invariant-loop-low : goal.invariant-loop-low
invariant-loop-low g l = record {
  order : l.low ≤ l.high;
  within : l.high ≤ length l.segments;
  passed : (k : ℕ) → k < l.low → begin_at l.segments k ≤ l.a;
  behind : (k : ℕ) → l.high ≤ k → k < length l.segments → l.a < begin_at l.segments k;
  counted : (digits : ℕ) → length l.segments < 2 ^ digits → Suffices (l.high - l.low) l.steps (l.fn.steps + digits);
  least : (halvings : ℕ) → 2 ^ halvings ≤ length l.segments + 1 → Needs (l.high - l.low) l.steps (l.fn.steps + halvings);
}

abbrev pub decreases-loop-low : goal.decreases-loop-low
decreases-loop-low g l = l.high - l.low
