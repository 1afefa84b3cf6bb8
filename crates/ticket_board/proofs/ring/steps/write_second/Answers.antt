use Rattle.ticket_board.proofs.RingRule.{second-word-allowed}
use Rattle.ticket_board.proofs.ring.steps.write_second.Goals as goal

pub store-requires : goal.store-requires
store-requires g c = (
  c.requires.table.0,
  c.requires.table.1,
  second-word-allowed _ _ _ _ _ _ c.args.seat.now.me c.requires.sender.0 c.args.word c.second.result c.args.query
      c.requires.written c.second.ensures.some c.second.ensures.word c.requires.sender.1,
)
