use Rattle.std.proofs.Common.{rules}
use Rattle.std.specs.Prelude.{nat_le}
use Rattle.std.proofs.lemmas.List.Sorted.{IsPartitionedBy-leb, IsPartitionPoint-from_clause}
use Rattle.dw_units.proofs.units.begun.Goals as goal

pub returns-clause-begun : goal.returns-clause-begun
returns-clause-begun c rise =
    IsPartitionPoint-from_clause (λ unit. nat_le unit.offset c.args.offset) c.args.units.now c.partition_point.result c.partition_point.ensures.partitioned (IsPartitionedBy-leb (λ unit. unit.offset) c.args.units.now c.args.offset rise) (λ a r f' call. search rules)
