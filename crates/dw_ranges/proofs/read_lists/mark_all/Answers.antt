use Rattle.std.proofs.Common.{arith}
use Rattle.std.proofs.lemmas.List.{take_more}
use Rattle.dw_ranges.proofs.ReadLemmas.{has_back, has_front}
use Rattle.dw_ranges.proofs.read_lists.mark_all.Goals as goal

pub loop-begin-preserved : goal.loop-begin-preserved
loop-begin-preserved c k other h = grind (arith, (take_more c.args.begins.now c.loop-begin.begin-index 0 c.loop-begin-test.true), has_back, has_front)
