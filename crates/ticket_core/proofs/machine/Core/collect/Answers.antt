use Rattle.ticket_core.proofs.CallLemmas.{collect-event, collect-refused, collect-sound, kept}
use Rattle.ticket_core.proofs.machine.Core.collect.Goals as goal

pub invariant_of-self : goal.invariant_of-self
invariant_of-self g c =
    collect-sound g.S.Solver.shown _ _ _ _ _ _ c.self.view_is c.self.invariant _ c.requires.sender _ _
    c.index_mut.ensures.value c.collect.result c.collect.ensures.collected c.collect.ensures.kept c.collect.ensures.refusal

pub returns-clause-event : goal.returns-clause-event
returns-clause-event g c =
    collect-event g.S.Solver.shown _ _ _ _ _ _ c.self.view_is c.self.invariant _ c.requires.sender _ _
    c.index_mut.ensures.value c.collect.result c.collect.ensures.collected c.collect.ensures.refusal

pub returns-clause-refusal : goal.returns-clause-refusal
returns-clause-refusal g c =
    collect-refused g.S.Solver.shown _ _ _ _ _ _ c.self.view_is c.self.invariant _ c.requires.sender _ c.collect.new.self
    c.index_mut.ensures.value c.collect.result c.collect.ensures.refusal

pub returns-clause-refused : goal.returns-clause-refused
returns-clause-refused g c =
    kept g.S.Solver.shown _ _ _ _ _ _ c.self.view_is c.self.invariant _ c.requires.sender _ _
    c.index_mut.ensures.value c.collect.result c.collect.ensures.kept
