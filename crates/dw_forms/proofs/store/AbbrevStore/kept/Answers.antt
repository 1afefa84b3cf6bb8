use Rattle.std.proofs.Common.{◌∙◌, length}
use Rattle.dw_forms.proofs.StartLemmas.{table-within}
use Rattle.dw_forms.proofs.store.AbbrevStore.kept.Goals as goal

pub returns-clause-counted : goal.returns-clause-counted
returns-clause-counted c = rw (← c.self.view_is) (c.len.ensures.count ∙ c.self.invariant.counted)

pub returns-clause-tables : goal.returns-clause-tables
returns-clause-tables c start =
    rw (← c.self.view_is) (rw (c.len.ensures.count, c.self.invariant.counted) (table-within c.self.inside.runs.items start))

pub returns-clause-bound : goal.returns-clause-bound
returns-clause-bound c =
    rw (← c.self.view_is) ((c.len.ensures.bound (length c.self.inside.section.now) c.self.invariant.below))
