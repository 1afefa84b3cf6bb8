use Rattle.ticket_board.proofs.RingWorkerRule.{answers-allowed}
use Rattle.ticket_board.proofs.ring.steps.finish.Goals as goal

pub store-requires : goal.store-requires
store-requires g c = (
  c.requires.table.0,
  c.requires.table.1,
  answers-allowed _ _ _ _ _ _ c.args.seat.now.me c.requires.held.0 c.args.word c.args.answered _ _ _
      c.requires.slot.0 c.requires.held.1 c.requires.read c.requires.slot.2 c.requires.slot.1 c.requires.held.2
      c.requires.answered,
)
