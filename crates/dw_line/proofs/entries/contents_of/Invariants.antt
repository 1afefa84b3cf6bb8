use Rattle.std.proofs.Common.{None, map}
use Rattle.dw_model.specs.LineHeader.{contents_at}
use Rattle.dw_bytes.specs.Width.{size_of}
use Rattle.dw_line.specs.Header.{format_shown, used_at}
use Rattle.dw_line.proofs.EntryLemmas.{Contained}
use Rattle.dw_line.proofs.entries.contents_of.Given as goal

abbrev pub invariant-loop-format : goal.invariant-loop-format
invariant-loop-format l =
    Contained (size_of l.fn.width) l.contents l.formats l.format-index l.cursor (used_at (record { path = None; directory = None }) (contents_at (size_of l.fn.width) (map format_shown l.fn.formats) l.fn.cursor))
