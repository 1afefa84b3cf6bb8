use Rattle.std.proofs.Common.{◌∙◌, ◌≤◌, ap, subst, arith}
use Rattle.dw_line.specs.Lines.{Table}
use Rattle.dw_line.specs.LinesInside.{used_in}
use Rattle.dw_line.specs.Sequences.{used_sequences, checkpoint_count, most_checkpoints}
use Rattle.dw_line.proofs.CountedLemmas.{few_checkpoints}
use Rattle.dw_line.proofs.lines.Lines.kept.Goals as goal

pub returns-clause-exact : goal.returns-clause-exact
returns-clause-exact c =
    let count = c.self.invariant.kept.count ∙ ap (λ (table : Table). checkpoint_count (used_sequences table.rows)) c.self.view_is in
    omega (arith, c.len.ensures, count)

pub returns-clause-bound : goal.returns-clause-bound
returns-clause-bound c =
    subst (λ (table : Table). c.len.result ≤ most_checkpoints (used_sequences table.rows)) c.self.view_is (omega (arith, c.len.ensures, c.self.invariant.kept.count, few_checkpoints (used_in c.self.inside)))
