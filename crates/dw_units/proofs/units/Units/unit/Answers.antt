use Rattle.dw_units.specs.Sections.{sections_shown}
use Rattle.dw_units.proofs.UnitsLemmas.{unit-in}
use Rattle.dw_units.proofs.units.Units.unit.Goals as goal

pub returns-clause-first : goal.returns-clause-first
returns-clause-first c =
    let unit = unit-in (sections_shown c.self.inside.sections) c.args.self.now c.self.inside.abbrevs c.self.inside.units.items c.args.i c.index.result.now c.self.view_is c.self.invariant.cut c.self.invariant.opened c.requires c.index.ensures in
    unit.1.first
