use Rattle.std.proofs.Common.{[], None, sym}
use Rattle.dw_model.specs.Text.{Tables, Bases}
use Rattle.dw_bytes.specs.Width.{size_of}
use Rattle.dw_line.specs.Header.{header_in}
use Rattle.dw_line.specs.TableAt.{TableBytes}
use Rattle.dw_line.proofs.SizeLemmas.{same_programs}
use Rattle.dw_line.proofs.header.same_rows.have_same_rows.Goals as goal

-- any texts serve: the program is the same with all
tables : Tables
tables = record { str = []; line_str = []; str_offsets = []; addr = []; rnglists = [] }

bases : Bases
bases = record { str_offsets = None; addr = None; rnglists = None; offset_size = 4 }

pub returns-then-table-other_table : goal.returns-then-table-other_table
returns-then-table-other_table c = λ alike first second.
    let table : TableBytes = (c.in-Some.table.bytes.now, size_of c.in-Some.table.width, c.in-Some.table.end) in
    let other : TableBytes = (c.in-Some-table_at.other_table.bytes.now, size_of c.in-Some-table_at.other_table.width, c.in-Some-table_at.other_table.end) in
    c.run_alike.ensures alike (same_programs c.args.section.now c.args.offset c.args.other_offset table other tables bases (header_in tables bases c.args.one.now) (header_in tables bases c.args.other.now) (sym c.in-Some.ensures) (sym c.in-Some-table_at.ensures) c.if-table-other_table.true (first tables bases) (second tables bases) c.if-one-other.false)
