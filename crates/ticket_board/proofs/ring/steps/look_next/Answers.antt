use Rattle.ticket_board.proofs.RingRule.{looks-allowed}
use Rattle.ticket_board.proofs.ring.steps.look_next.Goals as goal

pub load-requires : goal.load-requires
load-requires g c = (
  c.requires.table.0,
  c.requires.table.1,
  looks-allowed _ _ _ _ _ _ c.args.seat.now.me c.requires.sender.0 c.args.word c.requires.idle c.requires.sender.1,
)
