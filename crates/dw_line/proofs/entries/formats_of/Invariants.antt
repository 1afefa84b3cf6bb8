use Rattle.dw_model.specs.LineHeader.{formats_at}
use Rattle.dw_line.specs.Header.{format_shown}
use Rattle.dw_line.proofs.CountLemmas.{SoFar}
use Rattle.dw_line.proofs.EntryLemmas.{format_at, formats-none, formats-some}
use Rattle.dw_line.proofs.entries.formats_of.Given as goal

abbrev pub invariant-loop : goal.invariant-loop
invariant-loop l = SoFar format_shown format_at formats_at formats-none formats-some l.formats.items l.count l.counter l.cursor (formats_at l.fn.count l.fn.cursor)
