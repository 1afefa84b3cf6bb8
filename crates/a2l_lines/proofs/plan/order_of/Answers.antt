use Rattle.a2l_lines.proofs.OrderLemmas.{contains-more, within-more, length-more, sorted}
use Rattle.a2l_lines.proofs.plan.order_of.Goals as goal

pub loop-i-preserved : goal.loop-i-preserved
loop-i-preserved c = record {
  len = length-more c.loop-i.order.items c.push.new.self.items _ c.loop-i.i c.in_ok-push.ensures.items c.loop-i.invariant.len;
  within = within-more c.args.queries.now c.loop-i.order.items c.push.new.self.items _ c.loop-i.i c.in_ok-push.ensures.items c.loop-i-test.true c.loop-i.invariant.within;
  all = contains-more c.loop-i.order.items c.push.new.self.items _ c.loop-i.i c.in_ok-push.ensures.items c.loop-i.invariant.all;
}

pub returns : goal.returns
returns c = sorted c.args.queries.now c.loop-i.order.items c.sort.new.self.items c.loop-i.i c.loop-i-test.false c.loop-i.auto.i-end c.sort.ensures.permutation c.loop-i.invariant.len c.loop-i.invariant.within c.loop-i.invariant.all
