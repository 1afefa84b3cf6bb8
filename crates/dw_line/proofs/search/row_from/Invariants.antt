use Rattle.std.proofs.Common.{◌≤◌, ◌+◌}
use Rattle.dw_line.specs.Header.{header_shown}
use Rattle.dw_line.proofs.RunLemmas.{RunsFrom, row_at}
use Rattle.dw_line.proofs.search.row_from.Given as goal

abbrev pub invariant-loop : goal.invariant-loop
invariant-loop g l = record {
  runs : RunsFrom (header_shown l.header) l.fn.row (row_at l.last l.cursor) l.cursor l.next_checkpoint l.address l.counter;
  counted : l.steps ≤ l.fn.steps + l.counter;
}
