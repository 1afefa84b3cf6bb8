use Rattle.ticket_board.proofs.RingWorkerRule.{tries-allowed}
use Rattle.ticket_board.proofs.ring.steps.try_take.Goals as goal

pub compare_exchange-requires : goal.compare_exchange-requires
compare_exchange-requires g c = (
  c.requires.table.0,
  c.requires.table.1,
  tries-allowed _ _ _ _ _ _ c.args.seat.now.me c.requires.worker c.args.word c.args.asked c.args.taken _ _
      c.requires.empty c.requires.seen c.requires.place c.requires.asked c.requires.taken,
)
