use Rattle.std.proofs.Common.{arith}
use Rattle.ticket_board.proofs.RingMissed.{missed-more, sought-on}
use Rattle.ticket_board.proofs.ring.taker.Taker.try_cells.Goals as goal

pub loop-cell-preserved : goal.loop-cell-preserved
loop-cell-preserved g c =
    let i = c.loop-cell.invariant in
    let found = rw c.if-try_cell.false at c.try_cell.ensures.found in
    record {
      sought = sought-on c.args.self.now c.loop-cell.self c.try_cell.new.self i.sought c.try_cell.ensures.sought;
      missed = missed-more c.args.from c.loop-cell.cell c.args.self.now.working c.loop-cell.self.working c.try_cell.new.self.working i.order i.missed found;
      order = omega (arith, i.order);
      counted = omega (arith, i.counted, c.try_cell.ensures.counted);
    }
