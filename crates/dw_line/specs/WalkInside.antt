-- What a walk is seen as.
use Rattle.std.specs.Prelude.{◌<◌}
use Rattle.dw_line.specs.declared.walk.Walk.TheInside.{Inside}
use Rattle.dw_line.specs.Border.{OwnerEnds}
use Rattle.dw_line.specs.Header.{without_lists}
use Rattle.dw_line.specs.Reached.{IsLast}
use Rattle.dw_line.specs.Sequences.{used_sequences, IsOwner}
use Rattle.dw_line.specs.Walked.{Walked}

abbrev pub walk_shown : Inside → Walked
walk_shown walk = record { table = walk.lines.now; at = walk.at; high = walk.high }

-- The sequence of the addresses from the next one on is known up to its end, and the row that was
-- found last is one of the table's.
pub record IsWalk (walk : Inside) : Type 0 where
  pub owner : IsOwner walk.lines.now.rows walk.owner.number walk.at walk.owner.until
  pub border : walk.at < walk.owner.until → OwnerEnds walk.lines.now.rows walk.owner.number walk.owner.until
  pub last : IsLast (without_lists walk.lines.now.header) (used_sequences walk.lines.now.rows) walk.last
