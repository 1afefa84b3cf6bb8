use Rattle.std.proofs.Common.{◌≡◌, ◌++◌, map, drop}
use Rattle.dw_index.specs.Range.{pair_shown}
use Rattle.dw_line.specs.Sequences.{pairs_from}
use Rattle.dw_line.proofs.sequences.sequence_pairs.Given as goal

abbrev pub invariant-loop-number : goal.invariant-loop-number
invariant-loop-number l =
    map pair_shown l.pairs.items ++ pairs_from l.number (drop l.number l.sequences) ≡ pairs_from 0 l.sequences
