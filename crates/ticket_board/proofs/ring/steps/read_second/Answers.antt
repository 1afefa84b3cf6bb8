use Rattle.ticket_board.proofs.RingWorkerRule.{second-allowed}
use Rattle.ticket_board.proofs.ring.steps.read_second.Goals as goal

pub load-requires : goal.load-requires
load-requires g c = (
  c.requires.table.0,
  c.requires.table.1,
  second-allowed _ _ _ _ _ _ c.args.seat.now.me c.requires.held.0 c.args.word _ _ _ c.requires.held.1 c.requires.read
      c.requires.held.2,
)
