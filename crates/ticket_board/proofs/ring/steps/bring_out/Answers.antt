use Rattle.ticket_board.proofs.RingRule.{brings-allowed}
use Rattle.ticket_board.proofs.ring.steps.bring_out.Goals as goal

pub store-requires : goal.store-requires
store-requires g c = (
  c.requires.table.0,
  c.requires.table.1,
  brings-allowed _ _ _ _ _ _ c.args.seat.now.me c.requires.sender.0 c.args.word c.args.out c.requires.found
      c.requires.sender.1 c.requires.out,
)
