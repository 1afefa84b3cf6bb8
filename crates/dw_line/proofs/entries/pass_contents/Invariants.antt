use Rattle.std.proofs.Common.{map}
use Rattle.dw_model.specs.LineHeader.{contents_at}
use Rattle.dw_bytes.specs.Width.{size_of}
use Rattle.dw_line.specs.Header.{format_shown, place_behind}
use Rattle.dw_line.proofs.EntryLemmas.{Passed}
use Rattle.dw_line.proofs.entries.pass_contents.Given as goal

abbrev pub invariant-loop-format : goal.invariant-loop-format
invariant-loop-format l = Passed (size_of l.fn.width) l.formats l.format-index l.cursor (place_behind (contents_at (size_of l.fn.width) (map format_shown l.fn.formats) l.fn.cursor))
