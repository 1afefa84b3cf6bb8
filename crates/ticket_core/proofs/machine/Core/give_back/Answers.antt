use Rattle.std.proofs.Common.{◌<◌, length, arith}
use Rattle.ticket_core.proofs.HandLemmas.{lane-there, slot-there, give_back-event, give_back-sound}
use Rattle.ticket_core.proofs.machine.Core.give_back.Goals as goal

pub index_mut-requires : goal.index_mut-requires
index_mut-requires g c =
    let there : c.in-Some.sender < length c.self.inside.lanes.items = lane-there g.S.Solver.shown _ _ _ _ _ _ c.self.view_is c.self.invariant _ c.requires.worker _ c.index.ensures
    _ _ c.in-Some.is in
    omega arith

pub put-requires : goal.put-requires
put-requires g c =
    let there : c.in-Some.number < length c.index_mut.result.now.slots.items = slot-there g.S.Solver.shown _ _ _ _ _ _ c.self.view_is c.self.invariant _ c.requires.worker _ c.index.ensures
    _ _ c.in-Some.is _ c.index_mut.result.now c.index_mut.ensures.value in
    omega arith

pub invariant_of-self : goal.invariant_of-self
invariant_of-self g c =
    give_back-sound g.S.Solver.shown _ _ _ _ _ _ c.self.view_is c.self.invariant _ c.requires.worker _ c.index.ensures
    _ _ c.in-Some.is _ _ c.index_mut.ensures.value c.put.ensures

pub returns-clause-event : goal.returns-clause-event
returns-clause-event g c =
    give_back-event g.S.Solver.shown _ _ _ _ _ _ c.self.view_is c.self.invariant _ c.requires.worker _ c.index.ensures
    _ _ c.in-Some.is _ _ c.index_mut.ensures.value c.put.ensures
