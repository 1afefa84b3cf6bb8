use Rattle.std.proofs.Common.{length}
use Rattle.dw_line.specs.Header.{header_shown}
use Rattle.dw_line.proofs.LeapLemmas.{Leaping}
use Rattle.dw_line.proofs.leaps.long_ways.Given as goal

abbrev pub invariant-loop-next : goal.invariant-loop-next
invariant-loop-next l = Leaping (header_shown l.header) l.leaps.items l.cursor

abbrev pub decreases-loop-next : goal.decreases-loop-next
decreases-loop-next l = length l.cursor.left
