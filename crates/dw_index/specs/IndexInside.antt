-- What an index is seen as.
use Rattle.std.specs.Prelude.{List, None}
use Rattle.dw_index.specs.declared.segment.Segment.{Segment}
use Rattle.dw_index.specs.declared.index.Index.TheInside.{Inside}
use Rattle.dw_index.specs.Segments.{AreSegments}

abbrev pub segments_of : Inside → List Segment
segments_of index = index.segments.items

abbrev pub IsIndex : Inside → Type 0
IsIndex index = AreSegments 0 None index.segments.items
