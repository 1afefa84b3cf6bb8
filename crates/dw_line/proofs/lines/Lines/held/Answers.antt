use Rattle.std.proofs.Common.{◌≤◌, ◌+◌, ◌*◌, subst, arith}
use Rattle.dw_forms.specs.Tables.{tables_shown, bases_shown}
use Rattle.dw_line.specs.Lines.{Table}
use Rattle.dw_line.specs.Kept.{least_held, most_held}
use Rattle.dw_line.specs.Sequences.{used_sequences, checkpoint_count}
use Rattle.dw_line.specs.TableAt.{table_size}
use Rattle.dw_line.proofs.SizeLemmas.{size_within}
use Rattle.dw_line.proofs.CountedLemmas.{held-within, held-most, held-least}
use Rattle.dw_line.proofs.lines.Lines.held.Goals as goal

pub overflow_add-result : goal.overflow_add-result
overflow_add-result c = record { fits = omega (arith, held-within c.self.inside c.self.invariant, size_within c.self.inside.section.now c.self.inside.offset, c.self.told.0, c.self.told.1, c.len.ensures, c.segment_count.ensures) }

pub overflow_add-result-2 : goal.overflow_add-result-2
overflow_add-result-2 c = record { fits = omega (arith, held-within c.self.inside c.self.invariant, size_within c.self.inside.section.now c.self.inside.offset, c.self.told.0, c.self.told.1, c.len.ensures, c.segment_count.ensures, c.len-2.ensures) }

pub overflow_add-result-3 : goal.overflow_add-result-3
overflow_add-result-3 c = record { fits = omega (arith, held-within c.self.inside c.self.invariant, size_within c.self.inside.section.now c.self.inside.offset, c.self.told.0, c.self.told.1, c.len.ensures, c.segment_count.ensures, c.len-2.ensures, c.len-3.ensures (tables_shown c.self.inside.unit.tables) (bases_shown c.self.inside.unit.bases)) }

pub overflow_add-result-4 : goal.overflow_add-result-4
overflow_add-result-4 c = record { fits = omega (arith, held-within c.self.inside c.self.invariant, size_within c.self.inside.section.now c.self.inside.offset, c.self.told.0, c.self.told.1, c.len.ensures, c.segment_count.ensures, c.len-2.ensures, c.len-3.ensures (tables_shown c.self.inside.unit.tables) (bases_shown c.self.inside.unit.bases), c.len-4.ensures (tables_shown c.self.inside.unit.tables) (bases_shown c.self.inside.unit.bases)) }

pub returns-clause-bound : goal.returns-clause-bound
returns-clause-bound c =
    subst (λ (table : Table). c.len.result + c.segment_count.result + c.len-2.result + c.len-3.result + c.len-4.result ≤ most_held table) c.self.view_is (omega (arith, held-most c.self.inside c.self.invariant, c.len.ensures, c.segment_count.ensures, c.len-2.ensures, c.len-3.ensures (tables_shown c.self.inside.unit.tables) (bases_shown c.self.inside.unit.bases), c.len-4.ensures (tables_shown c.self.inside.unit.tables) (bases_shown c.self.inside.unit.bases)))

pub returns-clause-bytes : goal.returns-clause-bytes
returns-clause-bytes c =
    subst (λ (table : Table). checkpoint_count (used_sequences table.rows) + (c.len.result + c.segment_count.result + c.len-2.result + c.len-3.result + c.len-4.result) ≤ 2 * table_size table.section table.offset) c.self.view_is (omega (arith, held-within c.self.inside c.self.invariant, c.len.ensures, c.segment_count.ensures, c.len-2.ensures, c.len-3.ensures (tables_shown c.self.inside.unit.tables) (bases_shown c.self.inside.unit.bases), c.len-4.ensures (tables_shown c.self.inside.unit.tables) (bases_shown c.self.inside.unit.bases)))

pub returns-clause-least : goal.returns-clause-least
returns-clause-least c =
    subst (λ (table : Table). least_held table ≤ c.len.result + c.segment_count.result + c.len-2.result + c.len-3.result + c.len-4.result) c.self.view_is (omega (arith, held-least c.self.inside c.self.invariant, c.len.ensures, c.segment_count.ensures, c.len-2.ensures, c.len-3.ensures (tables_shown c.self.inside.unit.tables) (bases_shown c.self.inside.unit.bases), c.len-4.ensures (tables_shown c.self.inside.unit.tables) (bases_shown c.self.inside.unit.bases)))
