use Rattle.std.proofs.Common.{◌∙◌, ℕ, ◌*◌, ◌≤◌, List, length, subst, Bor, ap, option_map}
use Rattle.std.proofs.lemmas.Result.{err_from_is_err_and}
use Rattle.dw_model.specs.LineHeader.{line_header}
use Rattle.dw_forms.specs.Tables.{tables_shown, bases_shown}
use Rattle.dw_line.specs.Fault.{line_fault}
use Rattle.dw_line.specs.Header.{header_in, header_shown}
use Rattle.dw_line.specs.declared.checkpoints.Sequence.{Sequence}
use Rattle.dw_line.specs.Lines.{lines_of, matrix_of}
use Rattle.dw_line.specs.Sequences.{used_sequences, number_of}
use Rattle.dw_line.specs.Machine.{beginning, rows_on}
use Rattle.dw_line.proofs.CountLemmas.{tells_unless}
use Rattle.dw_line.proofs.LinesLemmas.{header_bad, run_bad, lines_are, kept_of, number_is}
use Rattle.dw_line.proofs.lines.Lines.read.Goals as goal

pub returns-in_err-header-clause-table : goal.returns-in_err-header-clause-table
returns-in_err-header-clause-table c =
    let tables = tables_shown c.args.tables.now in
    let bases = bases_shown c.args.bases.now in
    let comp_dir = option_map (λ (directory : Bor (List ℕ)). directory.now) c.args.comp_dir in
    let p = err_from_is_err_and c.from_residual.result c.from_residual.ensures.1 in
    rw (p.1) (tells_unless (line_fault c.in_err-header.field-0.0) (line_fault p.0) (line_header tables bases c.args.line_section.now c.args.offset) (lines_of tables bases c.args.line_section.now comp_dir c.args.offset) (ap line_fault p.2) (c.in_err-header.ensures tables bases)
    (header_bad tables bases c.args.line_section.now comp_dir c.args.offset))

pub returns-in_err-header-clause-fault : goal.returns-in_err-header-clause-fault
returns-in_err-header-clause-fault c =
    let p = err_from_is_err_and c.from_residual.result c.from_residual.ensures.1 in
    rw (p.1) (λ tables bases comp_dir.
    tells_unless (line_fault c.in_err-header.field-0.0) (line_fault p.0) (line_header tables bases c.args.line_section.now c.args.offset) (lines_of tables bases c.args.line_section.now comp_dir c.args.offset) (ap line_fault p.2) (c.in_err-header.ensures tables bases)
    (header_bad tables bases c.args.line_section.now comp_dir c.args.offset))

pub returns-in_err-recorded-clause-table : goal.returns-in_err-recorded-clause-table
returns-in_err-recorded-clause-table c =
    let tables = tables_shown c.args.tables.now in
    let bases = bases_shown c.args.bases.now in
    let comp_dir = option_map (λ (directory : Bor (List ℕ)). directory.now) c.args.comp_dir in
    let header = header_shown c.in_ok-header.header in
    let p = err_from_is_err_and c.from_residual-in_err-recorded.result c.from_residual-in_err-recorded.ensures.1 in
    rw (p.1) (tells_unless (line_fault c.in_err-recorded.field-0.0) (line_fault p.0) (rows_on header (beginning header)) (lines_of tables bases c.args.line_section.now comp_dir c.args.offset) (ap line_fault p.2) c.in_err-recorded.ensures
    (run_bad tables bases c.args.line_section.now comp_dir c.args.offset (header_in tables bases c.in_ok-header.header) (c.in_ok-header.ensures tables bases)))

pub returns-in_err-recorded-clause-fault : goal.returns-in_err-recorded-clause-fault
returns-in_err-recorded-clause-fault c =
    let header = header_shown c.in_ok-header.header in
    let p = err_from_is_err_and c.from_residual-in_err-recorded.result c.from_residual-in_err-recorded.ensures.1 in
    rw (p.1) (λ tables bases comp_dir.
    tells_unless (line_fault c.in_err-recorded.field-0.0) (line_fault p.0) (rows_on header (beginning header)) (lines_of tables bases c.args.line_section.now comp_dir c.args.offset) (ap line_fault p.2) c.in_err-recorded.ensures
    (run_bad tables bases c.args.line_section.now comp_dir c.args.offset (header_in tables bases c.in_ok-header.header) (c.in_ok-header.ensures tables bases)))

pub invariant_of-result : goal.invariant_of-result
invariant_of-result c =
    let header = header_shown c.in_ok-header.header in
    let recorded = c.in_ok-recorded.recorded in
    let kept = kept_of header recorded c.in_ok-recorded.ensures in
    record {
      each = λ tables bases comp_dir. lines_are tables bases c.args.line_section.now comp_dir c.args.offset (header_in tables bases c.in_ok-header.header) recorded (c.in_ok-header.ensures tables bases) c.in_ok-recorded.ensures;
      kept = kept;
      leaps = c.in_ok-leaps.ensures;
      fits = c.in_ok-recorded.ensures.fits;
      indexed = subst (λ (sequences : List Sequence). length c.in_ok-index.index ≤ 2 * length sequences) c.deref-2.ensures.value c.in_ok-index.ensures.size;
      found = λ a. c.in_ok-index.ensures.owners a ∙ ap (λ (sequences : List Sequence). number_of sequences a) c.deref-2.ensures.value ∙ number_is header recorded.checkpoints.items recorded.sequences.items (used_sequences (matrix_of header)) a kept;
      last = tt;
    }

pub returns-clause-table : goal.returns-clause-table
returns-clause-table c =
    let tables = tables_shown c.args.tables.now in
    let bases = bases_shown c.args.bases.now in
    let comp_dir = option_map (λ (directory : Bor (List ℕ)). directory.now) c.args.comp_dir in
    lines_are tables bases c.args.line_section.now comp_dir c.args.offset (header_in tables bases c.in_ok-header.header) c.in_ok-recorded.recorded (c.in_ok-header.ensures tables bases) c.in_ok-recorded.ensures
