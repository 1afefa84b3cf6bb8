use Rattle.std.proofs.Common.{◌+◌, ◌++◌, sym, ap, ◌∙◌, drop, arith}
use Rattle.ticket_board.specs.Pool.{every}
use Rattle.ticket_board.proofs.PoolLemmas.{asked_next}
use Rattle.ticket_board.proofs.pool.sender_task.ask_on.Goals as goal

pub loop-next-preserved : goal.loop-next-preserved
loop-next-preserved g c =
    let i = c.loop-next.invariant in
    let step = c.args.step in
    let rest = every step 0 (drop (c.loop-next.next + step) c.args.queries.now) in
    record {
      seat = c.ask.ensures.seat ∙ i.seat;
      asked =
          ap (λ client. client.asked ++ rest) c.in-Ok.ensures.asked
          ∙ asked_next step c.loop-next.next c.args.queries.now c.loop-next.client.asked c.index-queries-next.result c.requires.step.0
          c.loop-next-test.true c.index-queries-next.is
          ∙ i.asked;
      received = ap (λ client. client.received) c.in-Ok.ensures.asked ∙ i.received;
      closed = λ is. omega (arith, i.closed (sym (ap (λ client. client.closed) c.in-Ok.ensures.asked) ∙ is));
    }
