use Rattle.std.proofs.Common.{◌≡◌, ◌≤◌, ◌+◌, ◌*◌, None, length, subst, ap, ◌∙◌}
use Rattle.dw_model.specs.LineHeader.{LineHeader}
use Rattle.dw_model.specs.Text.{Tables, Bases}
use Rattle.dw_line.specs.Header.{header_in, header_shown}
use Rattle.dw_line.specs.Leaps.{FewLeaps}
use Rattle.dw_line.specs.Lines.{matrix_of}
use Rattle.dw_line.specs.LinesInside.{table_in}
use Rattle.dw_line.specs.Reached.{IsLast}
use Rattle.dw_line.specs.Sequences.{used_sequences, number_among, AreKept}
use Rattle.dw_line.proofs.LinesLemmas.{read_with, lines_alike}
use Rattle.dw_line.proofs.lines.Lines.turn_to_table.Goals as goal

pub invariant_of-self : goal.invariant_of-self
invariant_of-self c =
    let old = c.self.inside in
    let are = c.self.invariant in
    let new = c.in-Ok.header in
    let read = λ (tables : Tables) (bases : Bases). read_with tables bases old.section.now None old.offset (table_in old tables bases None) (are.each tables bases None) in
    let same : header_shown old.header ≡ header_shown new = c.have_same_rows.ensures c.if-not-have_same_rows.false (λ tables bases. (read tables bases).0) c.in-Ok.ensures in
    record {
      each = λ tables bases comp_dir. lines_alike tables bases old.section.now comp_dir c.args.offset (header_in tables bases old.header) (header_in tables bases new) (read tables bases).1 (read tables bases).2 same (c.in-Ok.ensures tables bases);
      kept = subst (λ (header : LineHeader). AreKept header old.checkpoints.items old.sequences.items (used_sequences (matrix_of header))) same are.kept;
      fits = subst (λ (header : LineHeader). length old.checkpoints.items + 3 * length old.sequences.items ≤ length header.program) same are.fits;
      leaps = subst (λ (header : LineHeader). FewLeaps header (length header.program) old.leaps.items) same are.leaps;
      indexed = are.indexed;
      found = λ a. are.found a ∙ ap (λ (header : LineHeader). number_among (used_sequences (matrix_of header)) a) same;
      last = subst (λ (header : LineHeader). IsLast header (used_sequences (matrix_of header)) old.last) same are.last;
    }
