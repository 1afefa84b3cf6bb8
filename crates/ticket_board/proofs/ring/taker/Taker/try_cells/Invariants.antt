use Rattle.std.proofs.Common.{◌+◌, ◌-◌, ◌*◌, ◌≤◌}
use Rattle.ticket_board.specs.Ring.Takers.{HasSought, MissedEach, Between}
use Rattle.ticket_board.proofs.ring.taker.Taker.try_cells.Given as goal

abbrev pub invariant-loop-cell : goal.invariant-loop-cell
invariant-loop-cell g l = record {
  sought : HasSought l.fn.self l.self;
  missed : MissedEach (l.cell - l.fn.from) (Between l.fn.from l.cell) l.fn.self.working l.self.working;
  order : l.fn.from ≤ l.cell;
  counted : l.steps + 2 * l.fn.from ≤ l.fn.steps + 2 * l.cell;
}
