use Rattle.std.proofs.Common.{sym}
use Rattle.dw_forms.proofs.RunLemmas.{found_in_order, found_other, found_nowhere}
use Rattle.dw_forms.proofs.run.Run.find.Goals as goal

pub returns-then-is_in_order : goal.returns-then-is_in_order
returns-then-is_in_order c =
    rw (← c.self.view_is) (found_in_order c.self.inside.declarations.items c.self.inside.in_order c.args.from c.args.code c.index.result.now c.self.invariant.in_order c.self.invariant.within (sym c.if-is_in_order.ensures) c.index.ensures)

pub returns-in_err-place : goal.returns-in_err-place
returns-in_err-place c =
    rw (c.from_residual.ensures, ← c.self.view_is) (found_nowhere c.self.inside.declarations.items c.self.inside.in_order c.args.from c.args.code c.self.inside.others c.self.invariant.in_order c.self.invariant.others (sym c.if-is_in_order.ensures) c.in_err-place.ensures)

pub returns : goal.returns
returns c =
    rw (← c.self.view_is) (found_other c.self.inside.declarations.items c.self.inside.in_order c.args.from c.args.code c.in_ok-place.place c.self.inside.others c.index-2.result.now c.self.invariant.in_order c.self.invariant.others (sym c.if-is_in_order.ensures) c.in_ok-place.ensures c.index-2.ensures)
