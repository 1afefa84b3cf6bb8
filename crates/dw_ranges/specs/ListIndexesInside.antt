-- What the indexes of range lists are seen as.
use Rattle.std.specs.Prelude.{◌≡◌}
use Rattle.std.specs.BTreeMap.{values}
use Rattle.dw_model.specs.Text.{Tables}
use Rattle.dw_forms.specs.Tables.{tables_shown}
use Rattle.dw_ranges.specs.declared.list_indexes.ListIndexes.TheInside.{Inside}
use Rattle.dw_ranges.specs.ReadLists.{Has}

abbrev pub tables_of : Inside → Tables
tables_of indexes = tables_shown indexes.tables

-- all are of lists in the same tables
abbrev pub AreOfTables : Inside → Type 0
AreOfTables indexes =
    (index : _) → Has (values indexes.indexes) index → index.value.tables ≡ tables_shown indexes.tables
