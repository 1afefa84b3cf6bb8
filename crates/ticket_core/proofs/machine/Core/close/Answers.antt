use Rattle.ticket_core.proofs.CallLemmas.{close-event, close-sound}
use Rattle.ticket_core.proofs.machine.Core.close.Goals as goal

pub invariant_of-self : goal.invariant_of-self
invariant_of-self g c =
    close-sound g.S.Solver.shown _ _ _ _ _ _ c.self.view_is c.self.invariant _ c.requires.sender _ _
    c.index_mut.ensures.value c.close.ensures

pub returns : goal.returns
returns g c = record {
  event =
      close-event g.S.Solver.shown _ _ _ _ _ _ c.self.view_is c.self.invariant _ c.requires.sender _ _
      c.index_mut.ensures.value c.close.ensures;
}
