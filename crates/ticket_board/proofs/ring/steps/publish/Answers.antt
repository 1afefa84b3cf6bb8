use Rattle.ticket_board.proofs.RingRule.{publishes-allowed}
use Rattle.ticket_board.proofs.ring.steps.publish.Goals as goal

pub store-requires : goal.store-requires
store-requires g c = (
  c.requires.table.0,
  c.requires.table.1,
  publishes-allowed _ _ _ _ _ _ c.args.seat.now.me c.requires.sender.0 c.args.word c.args.asked c.requires.written
      c.requires.sender.1 c.requires.asked,
)
