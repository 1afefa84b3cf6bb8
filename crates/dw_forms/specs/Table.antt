-- A table as a list of declarations.
use Rattle.std.specs.Prelude.{List}
use Rattle.dw_model.specs.Abbrev.{Declaration}
use Rattle.dw_forms.specs.Store.{table_from}
use Rattle.dw_forms.specs.declared.table.AbbrevTable.{AbbrevTable}

abbrev pub declarations_of : AbbrevTable → List Declaration
declarations_of table = table_from table.store.now table.start
