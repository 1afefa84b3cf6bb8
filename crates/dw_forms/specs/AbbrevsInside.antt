-- What one table is seen as.
use Rattle.std.specs.Prelude.{List}
use Rattle.dw_model.specs.Abbrev.{Declaration}
use Rattle.dw_forms.specs.declared.abbrevs.Abbrevs.TheInside.{Inside}
use Rattle.dw_forms.specs.Store.{table_from, IsWithin}

abbrev pub declarations_in : Inside → List Declaration
declarations_in table = table_from table.store table.start

abbrev pub BeginsWithin : Inside → Type 0
BeginsWithin table = IsWithin table.store table.start
