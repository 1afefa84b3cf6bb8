use Rattle.std.proofs.Common.{◌++◌, refl, sym, ap, ◌∙◌, map, drop}
use Rattle.ticket_board.specs.Pool.{every}
use Rattle.ticket_board.proofs.PoolLemmas.{every_drop}
use Rattle.ticket_board.proofs.pool.sender_task.ask_all.Goals as goal

pub loop-init : goal.loop-init
loop-init g c =
    let task = c.args.sending.pool.now.task in
    let rest = every task.shape.senders 0 (drop c.args.sending.sender task.queries.asked.now) in
    let fresh = c.requires.2.2 in
    record {
      seat = refl;
      asked = ap (λ asked. asked ++ rest) fresh.0 ∙ sym (every_drop task.shape.senders c.args.sending.sender task.queries.asked.now);
      lane = ap (map g.S.Solver.shown) c.new-lane.ensures.items ∙ sym fresh.1;
      closed = λ is. absurd (cc fresh.2);
    }
