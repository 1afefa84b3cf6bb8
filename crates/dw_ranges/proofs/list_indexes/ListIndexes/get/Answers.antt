use Rattle.std.proofs.Common.{sym, arith}
use Rattle.dw_ranges.proofs.ReadLemmas.{has_looked}
use Rattle.dw_ranges.proofs.list_indexes.ListIndexes.get.Goals as goal

pub returns : goal.returns
returns c = grind (arith, (has_looked _ c.self.inside.indexes.entries c.in-Some.index.now (sym c.in-Some.ensures.value)))
