use Rattle.ticket_board.proofs.RingRule.{receives-allowed}
use Rattle.ticket_board.proofs.ring.steps.receive.Goals as goal

pub store-requires : goal.store-requires
store-requires g c = (
  c.requires.table.0,
  c.requires.table.1,
  receives-allowed _ _ _ _ _ _ c.args.seat.now.me c.requires.sender.0 c.args.word c.args.free c.requires.out
      c.requires.slot c.requires.sender.1 c.requires.free,
)
