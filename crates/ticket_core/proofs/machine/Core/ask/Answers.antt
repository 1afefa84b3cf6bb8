use Rattle.ticket_core.proofs.CallLemmas.{ask-event, ask-refused, ask-sound, kept}
use Rattle.ticket_core.proofs.machine.Core.ask.Goals as goal

pub invariant_of-self : goal.invariant_of-self
invariant_of-self g c =
    ask-sound g.S.Solver.shown _ _ _ _ _ _ c.self.view_is c.self.invariant _ c.requires.sender _ _
    c.index_mut.ensures.value c.args.query c.ask.result c.ask.ensures.asked c.ask.ensures.kept c.ask.ensures.refusal

pub returns-clause-event : goal.returns-clause-event
returns-clause-event g c =
    ask-event g.S.Solver.shown _ _ _ _ _ _ c.self.view_is c.self.invariant _ c.requires.sender _ _
    c.index_mut.ensures.value c.args.query c.ask.result c.ask.ensures.asked c.ask.ensures.refusal

pub returns-clause-refusal : goal.returns-clause-refusal
returns-clause-refusal g c =
    ask-refused g.S.Solver.shown _ _ _ _ _ _ c.self.view_is c.self.invariant _ c.requires.sender _ c.ask.new.self
    c.index_mut.ensures.value c.args.query c.ask.result c.ask.ensures.refusal

pub returns-clause-refused : goal.returns-clause-refused
returns-clause-refused g c =
    kept g.S.Solver.shown _ _ _ _ _ _ c.self.view_is c.self.invariant _ c.requires.sender _ _
    c.index_mut.ensures.value c.ask.result c.ask.ensures.kept
