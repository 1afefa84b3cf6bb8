use Rattle.std.proofs.Common.{length}
use Rattle.dw_index.proofs.index.+gather.Given as goal

abbrev pub decreases-gather : goal.decreases-gather
decreases-gather l = length l.pairs.now
