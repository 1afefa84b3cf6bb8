use Rattle.std.proofs.Common.{◌≤◌, ◌<◌}
use Rattle.dw_ranges.specs.Window.{ArePieces}
use Rattle.dw_ranges.proofs.window.draft.push_pieces.Given as goal

abbrev pub invariant-loop : goal.invariant-loop
invariant-loop l = (l.fn.from < l.at) × (l.at ≤ l.fn.until) × ArePieces l.fn.index l.fn.from l.at l.pairs.items
