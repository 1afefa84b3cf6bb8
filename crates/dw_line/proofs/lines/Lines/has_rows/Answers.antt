use Rattle.std.proofs.Common.{◌≡◌, ◌∙◌, length, ap, arith}
use Rattle.std.specs.Prelude.{nat_lt}
use Rattle.dw_line.specs.Header.{header_shown}
use Rattle.dw_line.specs.Lines.{Table, matrix_of}
use Rattle.dw_line.specs.Sequences.{used_sequences}
use Rattle.dw_line.proofs.CountedLemmas.{as_many}
use Rattle.dw_line.proofs.lines.Lines.has_rows.Goals as goal

pub returns : goal.returns
returns c =
    let many : c.len.result ≡ length (used_sequences (matrix_of (header_shown c.self.inside.header))) = omega (arith, c.len.ensures, as_many (header_shown c.self.inside.header) c.self.inside.checkpoints.items (length c.self.inside.checkpoints.items) c.self.inside.sequences.items (used_sequences (matrix_of (header_shown c.self.inside.header))) c.self.invariant.kept.each) in
    ap (nat_lt 0) many ∙ ap (λ (table : Table). nat_lt 0 (length (used_sequences table.rows))) c.self.view_is
