use Rattle.std.proofs.Common.{◌≡◌, map, take}
use Rattle.dw_frames.specs.Told.{described_shown}
use Rattle.dw_frames.specs.Tree.{told_at}
use Rattle.dw_frames.proofs.tree.Tree.functions.Given as goal

abbrev pub invariant-loop-id : goal.invariant-loop-id
invariant-loop-id l = (l.self ≡ l.fn.self) × (map described_shown l.found.items ≡ map (told_at l.fn.self) (take l.id-index l.id-items))
