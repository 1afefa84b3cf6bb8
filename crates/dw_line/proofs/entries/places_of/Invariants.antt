use Rattle.std.proofs.Common.{ℕ, List, map}
use Rattle.dw_model.specs.Reading.{Between}
use Rattle.dw_model.specs.Text.{Tables, Bases}
use Rattle.dw_model.specs.LineHeader.{entries_at}
use Rattle.dw_bytes.specs.Width.{size_of}
use Rattle.dw_line.specs.Header.{format_shown, entry_in, placed}
use Rattle.dw_line.proofs.CountLemmas.{SoFar}
use Rattle.dw_line.proofs.EntryLemmas.{entry_at, entries-none, entries-some}
use Rattle.dw_line.proofs.entries.places_of.Given as goal

abbrev pub invariant-loop : goal.invariant-loop
invariant-loop l = record {
  read : (tables : Tables) (bases : Bases) → SoFar (λ at. entry_in tables bases (size_of l.fn.width) (map format_shown l.formats) (placed l.fn.cursor at)) (entry_at (size_of l.fn.width) tables bases (map format_shown l.formats)) (entries_at tables bases (size_of l.fn.width) (map format_shown l.formats)) (entries-none (size_of l.fn.width) tables bases (map format_shown l.formats)) (entries-some (size_of l.fn.width) tables bases (map format_shown l.formats)) l.places.items l.count l.counter l.cursor (entries_at tables bases (size_of l.fn.width) (map format_shown l.fn.formats) l.fn.count l.fn.cursor);
  passed : (piece : List ℕ) × Between l.fn.cursor piece l.cursor;
}
