-- The sections of a file, as the definitions have them.
use Rattle.dw_model.specs.Section as model
use Rattle.dw_forms.specs.Tables.{tables_shown}
use Rattle.dw_units.specs.declared.sections.Sections.{Sections}

abbrev pub sections_shown : Sections → model.Sections
sections_shown sections = record {
  info = sections.info.now;
  abbrevs = sections.abbrevs.now;
  line = sections.line.now;
  tables = tables_shown sections.tables;
}
