use Rattle.std.proofs.Common.{◌≡◌, ◌-◌}
use Rattle.std.specs.Prelude.{find}
use Rattle.dw_model.specs.Elf.{has_name, section_headers, header_named}
use Rattle.dw_elf.specs.Layout.{table_shown}
use Rattle.dw_elf.proofs.layout.header_named.Given as goal

abbrev pub invariant-loop : goal.invariant-loop
invariant-loop l = find (has_name l.name l.table.names.now) (section_headers (l.end - l.counter) l.cursor) ≡ header_named l.name (table_shown l.table)
