use Rattle.std.proofs.Common.{◌≡◌, ◌≤◌}
use Rattle.board_tests.proofs.runs.play_all.Given as goal

abbrev pub invariant-loop : goal.invariant-loop
invariant-loop g l = record {
  senders : l.desk.shape.senders ≡ 4;
  workers : l.desk.shape.workers ≡ 4;
  window : l.desk.shape.window ≡ 8;
  counted : l.received ≤ l.counter;
}
