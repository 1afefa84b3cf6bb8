use Rattle.std.proofs.Common.{sym, ◌∙◌}
use Rattle.dw_model.specs.Elf.{has_name, header_named}
use Rattle.dw_elf.specs.Layout.{section_header_of, table_shown}
use Rattle.dw_elf.proofs.HeaderLemmas.{found, goes_on, stops, is_done}
use Rattle.dw_elf.proofs.layout.header_named.Goals as goal

pub returns-then-has_name : goal.returns-then-has_name
returns-then-has_name c =
    sym (found (has_name c.args.name.now c.args.table.now.names.now) c.args.table.now.count c.loop.counter c.loop.cursor (section_header_of c.in_ok-header.header) c.section_header.new.cursor (header_named c.args.name.now (table_shown c.args.table.now)) c.loop-test.true c.in_ok-header.ensures.found (sym c.has_name.ensures ∙ c.if-has_name.true) c.loop.invariant)

pub loop-preserved : goal.loop-preserved
loop-preserved c =
    goes_on (has_name c.args.name.now c.args.table.now.names.now) c.args.table.now.count c.loop.counter c.loop.cursor (section_header_of c.in_ok-header.header) c.section_header.new.cursor (header_named c.args.name.now (table_shown c.args.table.now)) c.loop-test.true c.in_ok-header.ensures.found (sym c.has_name.ensures ∙ c.if-has_name.false) c.loop.invariant

pub returns : goal.returns
returns c =
    sym (is_done (has_name c.args.name.now c.args.table.now.names.now) c.args.table.now.count c.loop.counter c.loop.cursor (header_named c.args.name.now (table_shown c.args.table.now)) c.loop-test.false c.loop.invariant)

pub returns-in_err-header : goal.returns-in_err-header
returns-in_err-header c =
    rw c.from_residual.ensures (sym (stops (has_name c.args.name.now c.args.table.now.names.now) c.args.table.now.count c.loop.counter c.loop.cursor (header_named c.args.name.now (table_shown c.args.table.now)) c.loop-test.true c.in_err-header.ensures.none c.loop.invariant))
