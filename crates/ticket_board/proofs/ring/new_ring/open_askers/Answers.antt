use Rattle.std.proofs.Common.{◌+◌, ◌<◌, refl, sym, subst, arith}
use Rattle.ticket_core.specs.declared.shape.Shape.{Shape}
use Rattle.ticket_board.specs.Ring.Views.{asking_of}
use Rattle.ticket_board.proofs.RingTable.{asker-cut, desk-after, askers-then}
use Rattle.ticket_board.proofs.ring.new_ring.open_askers.Goals as goal

pub loop-sender-preserved : goal.loop-sender-preserved
loop-sender-preserved g c =
    let i = c.loop-sender.invariant in
    let ring = c.args.ring.now in
    let seat = c.cut_off-seat in
    let below : c.loop-sender.sender < ring.shape.senders = subst (λ (x : Shape). c.loop-sender.sender < x.senders) (sym c.requires.shape) c.loop-sender-test.true in
    let me = asker-cut ring c.loop-sender.sender c.loop-sender.desk.me seat.result.me below i.desk.knows seat.ensures.seat in
    record {
      desk = desk-after g.S.Solver.meaning ring c.loop-sender.sender (c.loop-sender.sender + 1) seat.new.desk.table_id c.loop-sender.desk.me seat.new.desk.me i.desk.knows seat.ensures.desk refl;
      len = omega (arith, i.len, c.push_reserved.ensures.len);
      room = omega (arith, i.room, c.push_reserved.ensures.capacity);
      made = askers-then ring c.loop-sender.sender c.loop-sender.askers.items c.push_reserved.new.self.items _ i.made c.push_reserved.ensures.items
          (λ k. record {
            shape = (me k).0.view.shape;
            key = (me k).0.view.key;
            table = seat.ensures.table k;
            sender = c.loop-sender.sender;
            asking = asking_of (me k).0.view.role;
          });
    }
