use Rattle.ticket_board.proofs.RingRule.{first-allowed}
use Rattle.ticket_board.proofs.ring.steps.write_first.Goals as goal

pub store-requires : goal.store-requires
store-requires g c = (
  c.requires.table.0,
  c.requires.table.1,
  first-allowed _ _ _ _ _ _ c.args.seat.now.me c.requires.sender.0 c.args.word c.args.first c.requires.room
      c.requires.sender.1,
)
