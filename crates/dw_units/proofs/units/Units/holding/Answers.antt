use Rattle.std.proofs.Common.{◌≡◌, ◌≤◌, ◌-◌, suc, length, arith, sym, subst}
use Rattle.std.specs.List.Sorted.{IsNonDecreasingBy}
use Rattle.dw_units.specs.Sections.{sections_shown}
use Rattle.dw_units.proofs.HoldingLemmas.{Begun, units-rise, none-begun, past-last, in-last}
use Rattle.dw_units.proofs.units.Units.holding.Goals as goal

pub returns-then-begun-eq0-clause-holding : goal.returns-then-begun-eq0-clause-holding
returns-then-begun-eq0-clause-holding c =
    let units = c.self.inside.units.items in
    let s = sections_shown c.self.inside.sections in
    let begun : Begun c.args.offset units c.begun-begun.result = subst (λ units. Begun c.args.offset units c.begun-begun.result) c.deref.ensures.value (c.begun-begun.ensures.begun (subst (λ units. IsNonDecreasingBy (λ unit. unit.offset) units) (sym c.deref.ensures.value) (units-rise s units c.self.invariant.cut))) in
    none-begun s c.args.self.now units c.args.offset c.begun-begun.result c.self.view_is c.self.invariant.cut begun c.if-begun-eq0.true

pub returns-then-offset-index-clause-holding : goal.returns-then-offset-index-clause-holding
returns-then-offset-index-clause-holding c =
    let units = c.self.inside.units.items in
    let s = sections_shown c.self.inside.sections in
    let begun : Begun c.args.offset units c.begun-begun.result = subst (λ units. Begun c.args.offset units c.begun-begun.result) c.deref.ensures.value (c.begun-begun.ensures.begun (subst (λ units. IsNonDecreasingBy (λ unit. unit.offset) units) (sym c.deref.ensures.value) (units-rise s units c.self.invariant.cut))) in
    let some : c.begun-begun.result ≡ suc (c.begun-begun.result - 1) = omega (arith, c.if-begun-eq0.false) in
    let within : c.begun-begun.result ≤ length units = subst (λ units. c.begun-begun.result ≤ length units) c.deref.ensures.value c.begun-begun.ensures.within in
    past-last s c.args.self.now units c.args.offset c.begun-begun.result (c.begun-begun.result - 1) c.index.result.now c.self.view_is c.self.invariant.cut begun some within c.index.ensures c.if-offset-index.true

pub returns-clause-holding : goal.returns-clause-holding
returns-clause-holding c =
    let units = c.self.inside.units.items in
    let s = sections_shown c.self.inside.sections in
    let begun : Begun c.args.offset units c.begun-begun.result = subst (λ units. Begun c.args.offset units c.begun-begun.result) c.deref.ensures.value (c.begun-begun.ensures.begun (subst (λ units. IsNonDecreasingBy (λ unit. unit.offset) units) (sym c.deref.ensures.value) (units-rise s units c.self.invariant.cut))) in
    let some : c.begun-begun.result ≡ suc (c.begun-begun.result - 1) = omega (arith, c.if-begun-eq0.false) in
    let within : c.begun-begun.result ≤ length units = subst (λ units. c.begun-begun.result ≤ length units) c.deref.ensures.value c.begun-begun.ensures.within in
    in-last s c.args.self.now units c.args.offset c.begun-begun.result (c.begun-begun.result - 1) c.index.result.now c.self.view_is c.self.invariant.cut begun some within c.index.ensures c.if-offset-index.false
