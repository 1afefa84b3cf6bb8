use Rattle.std.proofs.Common.{◌≡◌, List, length}
use Rattle.dw_model.specs.Tree.{Node}
use Rattle.dw_frames.specs.Known.{Knows}
use Rattle.dw_frames.specs.Placed.{Follows}
use Rattle.dw_frames.proofs.WalkLemmas.{SoFar}
use Rattle.dw_frames.proofs.walk.read_below.Given as goal

abbrev pub invariant-loop-entries : goal.invariant-loop-entries
invariant-loop-entries l = record {
  of : l.reader.of ≡ l.initial.reader.of;
  knows : Knows l.reader l.drafts;
  declarations : l.entries.declarations ≡ l.initial.entries.declarations;
  so_far : (before : List Node) → Follows l.initial.reader.of.sections l.initial.reader.of.unit before l.initial.drafts l.initial.entries.place.at
      → SoFar l.initial.reader.of before l.initial.entries (length l.initial.drafts.lists) l.drafts l.entries;
}

abbrev pub decreases-loop-entries : goal.decreases-loop-entries
decreases-loop-entries l = length l.entries.place.left
