use Rattle.std.proofs.Common.{◌≡◌, length, map, take}
use Rattle.std.specs.Vec.{vec_len, vec_capacity}
use Rattle.std.specs.VecDeque.{deque_len}
use Rattle.ticket_board.specs.Pool.{AreLanesFrom}
use Rattle.ticket_board.proofs.pool.answer_order.gather.Given as goal

abbrev pub invariant-loop-i : goal.invariant-loop-i
invariant-loop-i g l = record {
  len : vec_len l.answers ≡ l.i;
  room : vec_capacity l.answers ≡ length l.task.queries.asked.now;
  senders : deque_len l.lanes ≡ l.task.shape.senders;
  gathered : map g.S.Solver.shown l.answers.items ≡ map (g.S.Solver.meaning l.task.key.now) (take l.i l.task.queries.asked.now);
  left : AreLanesFrom g.S.Solver.shown g.S.Solver.meaning l.task l.i (map (λ lane. lane.items) l.lanes.items);
}
