use Rattle.std.proofs.Common.{◌≡◌, ◌+◌, ◌<◌, sym, ap, ◌∙◌, subst, arith}
use Rattle.ticket_core.specs.declared.shape.Shape.{Shape}
use Rattle.ticket_board.specs.Ring.Views.{working_of}
use Rattle.ticket_board.specs.Ring.Rule.{cut_of, worker_of}
use Rattle.ticket_board.specs.Ring.Opened.{takers_from}
use Rattle.ticket_board.proofs.RingTable.{taker-cut, desk-after, takers-then}
use Rattle.ticket_board.proofs.ring.new_ring.open_takers.Goals as goal

pub cut_off-seat-requires-clause-left : goal.cut_off-seat-requires-clause-left
cut_off-seat-requires-clause-left g c κs within =
    let ring = c.args.ring.now in
    let cut : cut_of c.loop.desk.me.0.view.role ≡ ring.shape.senders + c.loop.counter = ap (λ me. cut_of me.0.view.role) c.loop.invariant.desk.knows in
    let below : c.loop.counter < ring.shape.workers = subst (λ (x : Shape). c.loop.counter < x.workers) (sym c.requires.shape) c.loop-test.true in
    omega arith

pub loop-preserved : goal.loop-preserved
loop-preserved g c =
    let i = c.loop.invariant in
    let ring = c.args.ring.now in
    let seat = c.cut_off-seat in
    let me = taker-cut ring c.loop.counter c.loop.desk.me seat.result.me i.desk.knows seat.ensures.seat in
    record {
      desk = desk-after g.S.Solver.meaning ring (ring.shape.senders + c.loop.counter) (ring.shape.senders + (c.loop.counter + 1)) seat.new.desk.table_id c.loop.desk.me seat.new.desk.me
          i.desk.knows seat.ensures.desk (omega arith);
      len = omega (arith, i.len, c.push_reserved.ensures.len);
      room = omega (arith, i.room, c.push_reserved.ensures.capacity);
      made = takers-then ring c.loop.counter c.loop.takers.items c.push_reserved.new.self.items _ i.made c.push_reserved.ensures.items
          (λ k. record {
            shape = (me k).0.view.shape;
            key = (me k).0.view.key;
            table = seat.ensures.table k;
            worker = worker_of (me k).0.view.role;
            working = working_of (me k).0.view.role;
          });
    }

pub returns : goal.returns
returns g c = record {
  takers = c.loop.invariant.made ∙ ap (takers_from c.args.ring.now 0) (
      let n : c.loop.counter ≡ c.args.shape.workers = omega arith in n ∙ ap (λ (x : Shape). x.workers) (sym c.requires.shape));
}
