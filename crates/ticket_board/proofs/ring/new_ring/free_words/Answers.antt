use Rattle.std.proofs.Common.{arith}
use Rattle.ticket_board.proofs.RingTable.{free-more}
use Rattle.ticket_board.proofs.ring.new_ring.free_words.Goals as goal

pub loop-cell-preserved : goal.loop-cell-preserved
loop-cell-preserved c =
    let i = c.loop-cell.invariant in
    let state = c.push_reserved in
    let first = c.push_reserved-in-loop-cell in
    let second = c.push_reserved-in-loop-cell-2 in
    record {
      len = omega (arith, i.len, state.ensures.len, first.ensures.len, second.ensures.len);
      room = omega (arith, i.room, state.ensures.capacity, first.ensures.capacity, second.ensures.capacity);
      free = free-more c.args.shape.now.window c.loop-cell.cell c.loop-cell.words.items state.new.self.items first.new.self.items second.new.self.items
          (omega (arith, i.len, c.loop-cell.words.ok.0)) i.free state.ensures.items first.ensures.items second.ensures.items;
    }
