use Rattle.std.proofs.Common.{◌∙◌, ap, sym}
use Rattle.std.specs.Prelude.{option_map}
use Rattle.dw_line.specs.Header.{header_shown}
use Rattle.dw_line.specs.Lines.{matrix_of}
use Rattle.dw_line.specs.Search.{row_told}
use Rattle.dw_line.proofs.SequenceLemmas.{is-nowhere}
use Rattle.dw_line.proofs.lines.Lines.row_counted.Goals as goal

pub returns-in_default-clause-row : goal.returns-in_default-clause-row
returns-in_default-clause-row g c =
    let all = matrix_of (header_shown c.self.inside.header) in
    rw (← c.self.view_is) (sym (ap (option_map row_told) (is-nowhere all c.args.address (sym (c.self.invariant.found c.args.address) ∙ sym c.in_default.ensures))))
