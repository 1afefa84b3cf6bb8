use Rattle.std.proofs.Common.{arith, ◌∙◌, Option, Ok, ap}
use Rattle.std.specs.Prelude.{option_map}
use Rattle.std.proofs.lemmas.Result.{err_from_is_err_and}
use Rattle.dw_model.proofs.AdvanceLemmas.{range_entries_advance}
use Rattle.dw_forms.specs.Tables.{tables_shown, bases_shown}
use Rattle.dw_ranges.specs.declared.range_entry.RangeEntry.{RangeEntry}
use Rattle.dw_ranges.specs.Fault.{range_fault}
use Rattle.dw_ranges.specs.RangeEntry.{range_entry_shown}
use Rattle.dw_ranges.proofs.PartsLemmas.{all-read, all-on, no-address, no-entry, none-read}
use Rattle.dw_ranges.proofs.list_index.parts.Parts.read_from.Goals as goal

pub loop-found-init : goal.loop-found-init
loop-found-init c first = grind (arith, none-read)

pub returns-in_err-found : goal.returns-in_err-found
returns-in_err-found c =
    let p = err_from_is_err_and c.from_residual.result c.from_residual.ensures.1 in
    rw (p.1) (no-entry (tables_shown c.args.tables.now) (bases_shown c.args.bases.now) c.loop-found.self c.args.cursor.now c.loop-found.cursor c.loop-found.invariant (range_fault c.in_err-found.field-0.0) (range_fault p.0) (ap range_fault p.2) c.in_err-found.ensures)

pub returns-in_default : goal.returns-in_default
returns-in_default c first =
    all-read (tables_shown c.args.tables.now) (bases_shown c.args.bases.now) c.loop-found.self first c.loop-found.cursor c.next_entry.new.cursor _
    (c.in_ok-found.ensures ∙ ap (λ (found : Option RangeEntry). Ok (option_map range_entry_shown found, c.next_entry.new.cursor)) c.in_default.is) (c.loop-found.invariant first)

pub loop-found-smaller : goal.loop-found-smaller
loop-found-smaller c = grind (arith, range_entries_advance)

pub returns-in_err-add : goal.returns-in_err-add
returns-in_err-add c = grind (arith, no-address)

pub loop-found-preserved : goal.loop-found-preserved
loop-found-preserved c first = grind (arith, all-on)
