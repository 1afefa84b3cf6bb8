use Rattle.std.proofs.Common.{length, sym, ap, ◌∙◌, arith}
use Rattle.dw_ranges.proofs.LinkLemmas.{link-within, members-on, next-before}
use Rattle.dw_ranges.proofs.links.members.MembersIterator.next.Goals as goal

pub index-link-requires : goal.index-link-requires
index-link-requires g c =
    let inside = c.self.inside in
    omega (arith, link-within inside.links.now.items c.self.invariant.0 inside.group c.in_ok-place.place inside.next c.in_ok-place.was c.self.invariant.1, inside.links.now.ok.0)

pub invariant_of-self : goal.invariant_of-self
invariant_of-self g c =
    let inside = c.self.inside in
    (c.self.invariant.0, next-before inside.links.now.items c.self.invariant.0 inside.group c.in_ok-place.place inside.next c.in_ok-place.was c.self.invariant.1 c.index-link.result.now c.index-link.ensures)

pub returns-clause-steps : goal.returns-clause-steps
returns-clause-steps g c =
    let inside = c.self.inside in
    sym c.self.view_is ∙ members-on inside.links.now.items c.self.invariant.0 inside.group c.in_ok-place.place inside.next c.in_ok-place.was c.self.invariant.1 c.index-link.result.now c.index-link.ensures

pub returns-clause-goes : goal.returns-clause-goes
returns-clause-goes g c =
    let inside = c.self.inside in
    let steps = sym c.self.view_is ∙ members-on inside.links.now.items c.self.invariant.0 inside.group c.in_ok-place.place inside.next c.in_ok-place.was c.self.invariant.1 c.index-link.result.now c.index-link.ensures in
    record { on = λ _. (tt, tt, omega (arith, ap length steps)); keeps = tt; rests = λ _. tt }
