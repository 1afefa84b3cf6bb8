use Rattle.dw_units.specs.Sections.{sections_shown}
use Rattle.dw_units.proofs.UnitsLemmas.{tables-counted}
use Rattle.dw_units.proofs.units.Units.declarations.Goals as goal

pub returns-clause-tables : goal.returns-clause-tables
returns-clause-tables c i declarations =
    tables-counted (sections_shown c.self.inside.sections) c.args.self.now c.self.inside.abbrevs c.self.inside.units.items c.kept.result i declarations c.self.view_is c.self.invariant.section c.self.invariant.cut c.self.invariant.opened c.kept.ensures.tables
