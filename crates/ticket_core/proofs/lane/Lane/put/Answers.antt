use Rattle.ticket_core.proofs.LaneLemmas.{put-shown}
use Rattle.ticket_core.proofs.lane.Lane.put.Goals as goal

pub returns : goal.returns
returns g c shown = put-shown shown _ _ _ _ _ _
