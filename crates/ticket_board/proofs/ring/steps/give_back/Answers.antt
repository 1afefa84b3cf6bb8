use Rattle.ticket_board.proofs.RingWorkerRule.{gives-allowed}
use Rattle.ticket_board.proofs.ring.steps.give_back.Goals as goal

pub store-requires : goal.store-requires
store-requires g c = (
  c.requires.table.0,
  c.requires.table.1,
  gives-allowed _ _ _ _ _ _ c.args.seat.now.me c.requires.held.0 c.args.word c.args.asked _ _ c.requires.held.1
      c.requires.slot c.requires.held.2 c.requires.asked,
)
