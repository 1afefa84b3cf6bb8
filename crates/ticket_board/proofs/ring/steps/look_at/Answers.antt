use Rattle.std.proofs.Common.{refl}
use Rattle.ticket_board.specs.Ring.Layout.{state_field, word_of}
use Rattle.ticket_board.proofs.RingWorkerRule.{looks-at-word}
use Rattle.ticket_board.proofs.ring.steps.look_at.Goals as goal

pub load-requires : goal.load-requires
load-requires g c = (
  c.requires.table,
  c.requires.words,
  looks-at-word _ _ _ _ _ _ c.args.seat.now.me c.requires.worker (word_of c.args.cell state_field) c.args.cell
      c.requires.empty c.requires.within refl,
)
