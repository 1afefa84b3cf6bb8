use Rattle.dw_forms.proofs.RunLemmas.{one-more, all-placed}
use Rattle.dw_forms.proofs.run.places_of.Goals as goal

pub loop-i-preserved : goal.loop-i-preserved
loop-i-preserved c =
    one-more c.args.declarations.now c.args.from c.loop-i.i c.index-declarations-i.result c.loop-i.places c.insert.new.self c.loop-i-test.true c.loop-i.auto.i c.in_ok-insert.ensures.updates.0 c.loop-i.invariant

pub returns : goal.returns
returns c = all-placed c.args.declarations.now c.args.from c.loop-i.i c.loop-i.places c.loop-i-test.false c.loop-i.invariant
