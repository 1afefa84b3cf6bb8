use Rattle.std.proofs.Common.{map}
use Rattle.dw_model.specs.Text.{Tables, Bases}
use Rattle.dw_model.specs.LineHeader.{entries_at}
use Rattle.dw_bytes.specs.Width.{size_of}
use Rattle.dw_line.specs.Header.{format_shown, entry_shown}
use Rattle.dw_line.proofs.CountLemmas.{SoFar}
use Rattle.dw_line.proofs.EntryLemmas.{entry_at, entries-none, entries-some}
use Rattle.dw_line.proofs.entries.entries_of.Given as goal

abbrev pub invariant-loop : goal.invariant-loop
invariant-loop l =
    (tables : Tables) (bases : Bases) → SoFar (entry_shown tables bases) (entry_at (size_of l.fn.width) tables bases (map format_shown l.formats)) (entries_at tables bases (size_of l.fn.width) (map format_shown l.formats)) (entries-none (size_of l.fn.width) tables bases (map format_shown l.formats)) (entries-some (size_of l.fn.width) tables bases (map format_shown l.formats)) l.entries.items l.count l.counter l.cursor (entries_at tables bases (size_of l.fn.width) (map format_shown l.fn.formats) l.fn.count l.fn.cursor)
