use Rattle.std.proofs.Common.{map, arith}
use Rattle.std.proofs.lemmas.List.{map-append}
use Rattle.dw_index.specs.Range.{pair_shown}
use Rattle.dw_index.proofs.IndexLemmas.{no_pairs, index_of_none, index_of_both}
use Rattle.dw_index.proofs.index.+gather.Goals as goal

pub returns-then-pairs-eq0 : goal.returns-then-pairs-eq0
returns-then-pairs-eq0 t c =
    rw (c.new.ensures.items, no_pairs c.args.pairs.now c.if-pairs-eq0.true) index_of_none

pub returns : goal.returns
returns t c =
    grind (arith, map-append pair_shown c.split_at.result.0.now c.split_at.result.1.now, index_of_both (map pair_shown c.split_at.result.0.now) (map pair_shown c.split_at.result.1.now) (map pair_shown c.args.pairs.now) c.in_ok-first.first.items c.in_ok-second.second.items)
