use Rattle.std.proofs.Common.{arith, rules}
use Rattle.std.specs.Prelude.{option_map}
use Rattle.dw_forms.specs.Tables.{tables_shown, bases_shown}
use Rattle.dw_units.specs.Entry.{entry_shown}
use Rattle.dw_ranges.proofs.OnlyAddr.{told-of, few-of}
use Rattle.dw_ranges.proofs.range_list.list_of.Goals as goal

pub returns-in_default : goal.returns-in_default
returns-in_default c = grind (arith, few-of)

pub returns : goal.returns
returns c = record {
  same_ranges =
      told-of (tables_shown c.args.tables.now) (bases_shown c.args.unit.now.bases) (option_map entry_shown c.args.unit.now.root) c.in-List.value c.args.named.now c.in-List.is c.list_by.result (search rules);
}
