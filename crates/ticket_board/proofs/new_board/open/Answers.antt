use Rattle.ticket_board.proofs.OpeningLemmas.{all_empty}
use Rattle.ticket_board.proofs.new_board.open.Goals as goal

pub workers_of-requires-after_bounds : goal.workers_of-requires-after_bounds
workers_of-requires-after_bounds g c κs within = all_empty c.in_ok-ring.ring c.in_ok-ring.takers.items c.in_ok-ring.ensures.takers
