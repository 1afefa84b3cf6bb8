use Rattle.std.proofs.Common.{sym, ap}
use Rattle.dw_forms.specs.Table.{declarations_of}
use Rattle.dw_units.specs.OpenUnit.{sections_of, unit_of}
use Rattle.dw_units.specs.View.{found_in}
use Rattle.dw_units.proofs.PlaceLemmas.{outside-all}
use Rattle.dw_units.proofs.open_unit.OpenUnit.view_by.Goals as goal

pub returns-in_err-abbrevs : goal.returns-in_err-abbrevs
returns-in_err-abbrevs c =
    rw (c.from_residual.ensures) (sym (ap found_in (outside-all (sections_of c.args.self) (unit_of c.args.self) c.args.offset c.in_err-abbrevs.ensures.1)))

pub view_in-requires-clause-layouts : goal.view_in-requires-clause-layouts
view_in-requires-clause-layouts c = c.requires (declarations_of c.in_ok-abbrevs.abbrevs) c.in_ok-abbrevs.ensures.0
