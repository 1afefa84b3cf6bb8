use Rattle.dw_symbols.proofs.LineLemmas.{bad-table}
use Rattle.dw_symbols.proofs.unit_parts.read_table.Goals as goal

pub returns-in-Err-Bad : goal.returns-in-Err-Bad
returns-in-Err-Bad c = bad-table c.args.line.now c.args.offset c.in-Err-Bad.field-0 c.in-Err-Bad.field-0-is c.in-Err-Bad.ensures.fault
