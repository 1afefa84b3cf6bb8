use Rattle.std.proofs.Common.{◌+◌, ◌∙◌, get_or}
use Rattle.std.proofs.lemmas.List.{length-set}
use Rattle.a2l_lines.proofs.OrderLemmas.{moved-more, none-more, all-moved}
use Rattle.a2l_lines.proofs.order.picks_in.Goals as goal

pub loop-i-preserved : goal.loop-i-preserved
loop-i-preserved c =
    let picks = c.loop-i.picks.items in
    let order = c.args.order.now in
    let i = c.loop-i.i in
    let place = (get_or order i ((0, 0), 0)).1 in
    record {
      len = length-set picks (place + 1) (i + 1) ∙ c.loop-i.invariant.len;
      none = none-more picks place (i + 1) c.loop-i.invariant.none;
      moved = moved-more c.args.queries.now order picks i c.requires.order c.loop-i-test.true c.loop-i.invariant.len c.loop-i.invariant.moved;
    }

pub returns : goal.returns
returns c = all-moved c.args.queries.now c.args.order.now c.loop-i.picks.items c.loop-i.i c.requires.order c.loop-i-test.false c.loop-i.invariant.len c.loop-i.invariant.none c.loop-i.invariant.moved
