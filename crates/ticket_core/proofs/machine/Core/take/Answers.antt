use Rattle.std.proofs.lemmas.Result.{err_from_is_err_and}
use Rattle.ticket_core.proofs.HandLemmas.{take-event, take-sound, take-refused, take-kept, take-kept-sound}
use Rattle.ticket_core.proofs.machine.Core.take.Goals as goal

pub invariant_of-self : goal.invariant_of-self
invariant_of-self g c =
    take-kept-sound g.S.Solver.shown _ _ _ _ _ _ c.self.view_is c.self.invariant _ c.requires.worker _ c.index.ensures
    c.in_default.is _ c.args.number c.requires.sender _ _ c.index_mut.ensures.value c.in_err-take.ensures.kept

pub returns-in_err-take-clause-refusal : goal.returns-in_err-take-clause-refusal
returns-in_err-take-clause-refusal g c =
    let p = err_from_is_err_and c.from_residual.result c.from_residual.ensures.1 in
    rw (p.1, p.2) (take-refused g.S.Solver.shown _ _ _ _ _ _ c.self.view_is c.self.invariant _ c.requires.worker _ c.index.ensures
    c.in_default.is _ c.args.number c.requires.sender _ c.take.new.self c.index_mut.ensures.value _ c.in_err-take.ensures.refusal)

pub returns-in_err-take-clause-refused : goal.returns-in_err-take-clause-refused
returns-in_err-take-clause-refused g c =
    let p = err_from_is_err_and c.from_residual.result c.from_residual.ensures.1 in
    rw p.1 (take-kept g.S.Solver.shown _ _ _ _ _ _ c.self.view_is c.self.invariant _ c.requires.worker _ c.index.ensures
    c.in_default.is _ c.args.number c.requires.sender _ _ c.index_mut.ensures.value c.in_err-take.ensures.kept)

pub invariant_of-self-2 : goal.invariant_of-self-2
invariant_of-self-2 g c =
    take-sound g.S.Solver.shown _ _ _ _ _ _ c.self.view_is c.self.invariant _ c.requires.worker _ c.index.ensures
    c.in_default.is _ c.args.number c.requires.sender _ _ c.index_mut.ensures.value c.in_ok-take.ensures.taken c.in_ok-take.ensures.refusal

pub returns-clause-event : goal.returns-clause-event
returns-clause-event g c =
    take-event g.S.Solver.shown _ _ _ _ _ _ c.self.view_is c.self.invariant _ c.requires.worker _ c.index.ensures
    c.in_default.is _ c.args.number c.requires.sender _ _ c.index_mut.ensures.value c.in_ok-take.ensures.taken c.in_ok-take.ensures.refusal
