use Rattle.std.proofs.Common.{sym}
use Rattle.dw_bytes.specs.Width.{size_of}
use Rattle.dw_line.proofs.SizeLemmas.{table_within}
use Rattle.dw_line.proofs.header.table.table_size.Goals as goal

pub returns-in-Some-clause-within : goal.returns-in-Some-clause-within
returns-in-Some-clause-within c = table_within c.args.section.now c.args.offset (c.in-Some.table.bytes.now, size_of c.in-Some.table.width, c.in-Some.table.end) (sym c.in-Some.ensures)
