use Rattle.dw_symbols.proofs.LineLemmas.{fault-turned, table-turned, named-turned}
use Rattle.dw_symbols.proofs.unit_parts.turn.Goals as goal

pub returns-in-Ok-clause-lines : goal.returns-in-Ok-clause-lines
returns-in-Ok-clause-lines c =
    table-turned _ _ c.in-Ok.table c.turn_table.new.table (rw (c.in-Ok.is) at c.requires.named) c.turn_table.ensures

pub returns-in-Ok-clause-named : goal.returns-in-Ok-clause-named
returns-in-Ok-clause-named c =
    named-turned _ _ c.in-Ok.table c.turn_table.new.table (rw (c.in-Ok.is) at c.requires.named) c.turn_table.ensures

pub returns-in-Err-clause-lines : goal.returns-in-Err-clause-lines
returns-in-Err-clause-lines c =
    rw (c.in-Err.is) (fault-turned _ _ c.in-Err.field-0 (rw (c.in-Err.is) at c.requires.named))
