use Rattle.ticket_core.specs.declared.lane.Slot.TheVariants.{Out}
use Rattle.ticket_core.proofs.LaneLemmas.{put-shown}
use Rattle.ticket_core.proofs.lane.Lane.take.Goals as goal

pub returns-clause-taken : goal.returns-clause-taken
returns-clause-taken g c shown = put-shown shown _ _ _ _ _ (Out _)
