use Rattle.std.proofs.Common.{◌≡◌, ◌≤◌, map, replicate, vec_len, vec_capacity}
use Rattle.ticket_core.specs.State.{Shown, fresh}
use Rattle.ticket_core.specs.Shown.{sender_shown}
use Rattle.ticket_core.proofs.machine.new_lanes.Given as goal

abbrev pub invariant-loop : goal.invariant-loop
invariant-loop g l = record {
  fresh_so_far : (shown : g.row.A.Denot → Shown) → map (sender_shown shown) l.lanes.items ≡ replicate l.counter fresh;
  count : vec_len l.lanes ≡ l.counter;
  room : l.count ≤ vec_capacity l.lanes;
}
