use Rattle.std.proofs.Common.{◌≤◌, length, take, arith, ◌∙◌, Some, None, sym, ap}
use Rattle.std.specs.Prelude.{option_map}
use Rattle.dw_forms.specs.Fault.{form_fault}
use Rattle.dw_forms.specs.Store.{table_from}
use Rattle.dw_elf.specs.OpenFault.{refusal_of}
use Rattle.dw_units.specs.Header.{header_shown}
use Rattle.dw_units.specs.Entry.{entry_shown}
use Rattle.dw_units.specs.Sections.{sections_shown}
use Rattle.dw_model.specs.Unit.{is_skipped}
use Rattle.dw_model.specs.Root.{entry}
use Rattle.dw_units.proofs.OpenLemmas.{root-end, root-found, rooted-passes, rootless-fails, fails-as, entry-told, declarations-told, unasked, found-first, opened, hides-table, has-table}
use Rattle.dw_units.proofs.PlaceLemmas.{entry-within}
use Rattle.dw_units.proofs.unit.open_unit.Goals as goal

pub returns-then-is_skipped-clause-opened : goal.returns-then-is_skipped-clause-opened
returns-then-is_skipped-clause-opened c =
    let end = c.requires.whole (sym c.if-is_skipped.ensures) in
    opened (sections_shown c.args.sections.now) c.args.abbrevs.now c.args.header c.new.result None None c.new.ensures.header c.new.ensures.bases c.new.ensures.root c.new.ensures.table (root-end (sections_shown c.args.sections.now) (header_shown c.args.header) end) (unasked None (entry (sections_shown c.args.sections.now) (header_shown c.args.header) c.args.header.first_entry) (is_skipped (header_shown c.args.header).kind) (sym c.if-is_skipped.ensures)) (sym c.if-is_skipped.ensures, end)

pub returns-in-Err-clause-root : goal.returns-in-Err-clause-root
returns-in-Err-clause-root c =
    let none = declarations-told (sections_shown c.args.sections.now) (header_shown c.args.header) c.args.abbrevs.now.section (form_fault c.in-Err.fault) c.requires.section c.in-Err.ensures.fault in
    fails-as (sections_shown c.args.sections.now) (header_shown c.args.header) (form_fault c.in-Err.fault) (refusal_of c.root_fault.result) c.root_fault.ensures (sym c.if-is_skipped.ensures) none

pub table-declared-requires : goal.table-declared-requires
table-declared-requires c = c.in-Ok.ensures.found.1

pub returns-in-Err-entry_in-clause-root : goal.returns-in-Err-entry_in-clause-root
returns-in-Err-entry_in-clause-root c =
    let none = entry-told (sections_shown c.args.sections.now) (header_shown c.args.header) (form_fault c.in-Err-entry_in.fault) c.in-Err-entry_in.ensures.entry in
    fails-as (sections_shown c.args.sections.now) (header_shown c.args.header) (form_fault c.in-Err-entry_in.fault) (refusal_of c.root_fault-in-Err-entry_in.result) c.root_fault-in-Err-entry_in.ensures (sym c.if-is_skipped.ensures) none

pub returns-in_default-clause-root : goal.returns-in_default-clause-root
returns-in_default-clause-root c =
    let found = root-found (sections_shown c.args.sections.now) (header_shown c.args.header) (option_map entry_shown c.in-Ok-entry_in.found) c.in-Ok-entry_in.ensures.entry.0 c.in-Ok-entry_in.ensures.entry.1 in
    rootless-fails (sections_shown c.args.sections.now) (header_shown c.args.header) (sym c.if-is_skipped.ensures) (found ∙ ap (option_map entry_shown) c.in_default.is)

pub returns-clause-opened : goal.returns-clause-opened
returns-clause-opened c =
    let found = root-found (sections_shown c.args.sections.now) (header_shown c.args.header) (option_map entry_shown c.in-Ok-entry_in.found) c.in-Ok-entry_in.ensures.entry.0 c.in-Ok-entry_in.ensures.entry.1 in
    let first = entry-within (sections_shown c.args.sections.now) (header_shown c.args.header) c.args.header.first_entry (option_map entry_shown c.in-Ok-entry_in.found, c.in-Ok-entry_in.ensures.entry.0) c.in-Ok-entry_in.ensures.entry.1 in
    let within : c.args.header.first_entry ≤ length (take c.args.header.end c.args.sections.now.info.now) = omega (arith, first) in
    opened (sections_shown c.args.sections.now) c.start.new.self c.args.header c.new-2.result (Some c.in-Some.root) (Some c.in-Ok.table) c.new-2.ensures.header c.new-2.ensures.bases c.new-2.ensures.root c.new-2.ensures.table (found ∙ ap (option_map entry_shown) c.in-Some.is) (λ kept. found-first c.in-Ok-entry_in.found c.in-Some.root (entry (sections_shown c.args.sections.now) (header_shown c.args.header) c.args.header.first_entry) c.in-Ok-entry_in.ensures.entry c.in-Some.is) (c.in-Ok.ensures.found, within, sym c.if-is_skipped.ensures)

pub returns-clause-root : goal.returns-clause-root
returns-clause-root c =
    let found = root-found (sections_shown c.args.sections.now) (header_shown c.args.header) (option_map entry_shown c.in-Ok-entry_in.found) c.in-Ok-entry_in.ensures.entry.0 c.in-Ok-entry_in.ensures.entry.1 in
    rooted-passes (sections_shown c.args.sections.now) (header_shown c.args.header) (entry_shown c.in-Some.root) (found ∙ ap (option_map entry_shown) c.in-Some.is)

pub returns-in-Err-clause-memory : goal.returns-in-Err-clause-memory
returns-in-Err-clause-memory c =
    hides-table (sections_shown c.args.sections.now) (header_shown c.args.header) c.args.abbrevs.now.section (form_fault c.in-Err.fault) (refusal_of c.root_fault.result) c.root_fault.ensures (sym c.if-is_skipped.ensures) c.requires.section c.in-Err.ensures.memory

pub returns-in-Err-entry_in-clause-memory : goal.returns-in-Err-entry_in-clause-memory
returns-in-Err-entry_in-clause-memory c =
    has-table (sections_shown c.args.sections.now) (header_shown c.args.header) c.start.new.self.section (table_from c.start.new.self c.in-Ok.table) (refusal_of c.root_fault-in-Err-entry_in.result) (sym c.if-is_skipped.ensures) (c.in-Ok.ensures.section ∙ c.requires.section) c.in-Ok.ensures.found.2
