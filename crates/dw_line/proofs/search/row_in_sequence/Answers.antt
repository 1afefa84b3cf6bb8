use Rattle.std.proofs.Common.{◌≡◌, ◌+◌, ◌-◌, ◌<◌, ℕ, length, get_or, rules, of_calls, subst, arith}
use Rattle.std.specs.Prelude.{nat_le}
use Rattle.std.proofs.lemmas.Fn.{always_returns_same}
use Rattle.std.proofs.lemmas.List.Sorted.{IsPartitionedBy-leb}
use Rattle.dw_line.specs.declared.checkpoints.Checkpoint.{Checkpoint}
use Rattle.dw_line.specs.Header.{header_shown}
use Rattle.dw_line.specs.Reached.{FindsFrom}
use Rattle.dw_line.proofs.SearchLemmas.{rises, Splits, finds_none, finds_by_halves}
use Rattle.dw_line.proofs.search.row_in_sequence.Goals as goal

-- what is in the place of a checkpoint after the last one
abbrev none : Checkpoint
none = record { registers = record { address = 0; file = 0; line = 0; column = 0 }; place = 0 }

pub returns-then-next-eq0-clause-row : goal.returns-then-next-eq0-clause-row
returns-then-next-eq0-clause-row g c = λ rows has below.
    let header = header_shown c.args.header.now in
    let point : Splits c.args.checkpoints.now c.args.address c.partition_point-next.result =
    c.partition_point-next.ensures.partitioned (λ checkpoint. nat_le checkpoint.registers.address c.args.address) (always_returns_same _ _ _ (λ a r f k. search (rules, of_calls)))
    (IsPartitionedBy-leb (λ checkpoint. checkpoint.registers.address) c.args.checkpoints.now c.args.address (rises header c.args.checkpoints.now rows has)) in
    finds_none header c.args.checkpoints.now rows c.args.address none has (subst (λ (n : ℕ). Splits c.args.checkpoints.now c.args.address n) c.if-next-eq0.true point)

pub returns-clause-row : goal.returns-clause-row
returns-clause-row g c = λ rows has below.
    let header = header_shown c.args.header.now in
    let next = c.partition_point-next.result in
    let same : next ≡ (next - 1) + 1 = omega (arith, c.if-next-eq0.false) in
    let within : next - 1 < length c.args.checkpoints.now = omega (arith, c.if-next-eq0.false, c.partition_point-next.ensures.bound) in
    let point : Splits c.args.checkpoints.now c.args.address next =
    c.partition_point-next.ensures.partitioned (λ checkpoint. nat_le checkpoint.registers.address c.args.address) (always_returns_same _ _ _ (λ a r f k. search (rules, of_calls)))
    (IsPartitionedBy-leb (λ checkpoint. checkpoint.registers.address) c.args.checkpoints.now c.args.address (rises header c.args.checkpoints.now rows has)) in
    let split = subst (λ (n : ℕ). Splits c.args.checkpoints.now c.args.address n) same point in
    finds_by_halves header c.args.checkpoints.now rows c.args.address (next - 1) none c.row_from.result has below within split
    (subst (λ (n : ℕ). FindsFrom header (get_or c.args.checkpoints.now (next - 1) none) n c.args.address c.row_from.result) same c.row_from.ensures.row)
