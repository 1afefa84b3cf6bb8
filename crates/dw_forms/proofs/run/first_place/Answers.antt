use Rattle.dw_forms.proofs.RunLemmas.{none-placed, other-placed, first-placed}
use Rattle.dw_forms.proofs.run.first_place.Goals as goal

pub returns-in_err-other : goal.returns-in_err-other
returns-in_err-other c =
    rw c.from_residual.ensures (none-placed c.args.places.now c.args.from c.args.code c.range.result (c.range.ensures.in_range tt) c.in_err-other.ensures.steps.0)

pub returns-then-other-code : goal.returns-then-other-code
returns-then-other-code c =
    other-placed c.args.places.now c.args.from c.args.code c.in_ok-other.field-0.now c.range.result c.next.new.self (c.range.ensures.in_range tt) c.in_ok-other.ensures.steps c.if-other-code.true

pub returns : goal.returns
returns c =
    first-placed c.args.places.now c.args.from c.args.code c.in_ok-other.field-0.now c.range.result c.next.new.self (c.range.ensures.in_range tt) c.in_ok-other.ensures.steps c.if-other-code.false
