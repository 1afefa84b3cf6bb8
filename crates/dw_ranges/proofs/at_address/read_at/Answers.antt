use Rattle.std.proofs.Common.{arith}
use Rattle.dw_forms.specs.Tables.{tables_shown}
use Rattle.dw_ranges.specs.Lists.{only_addr}
use Rattle.dw_ranges.specs.OutcomeShown.{base_shown, outcome_shown}
use Rattle.dw_ranges.proofs.ListLemmas.{held-on}
use Rattle.dw_ranges.proofs.PlaceLemmas.{outcome-in}
use Rattle.dw_ranges.proofs.at_address.read_at.Goals as goal

pub loop-cursor-preserved : goal.loop-cursor-preserved
loop-cursor-preserved c =
    let tables = tables_shown c.args.tables.now in
    let bases = only_addr c.args.list.addr in
    let base = base_shown c.loop-cursor.base in
    record {
      so_far = held-on tables bases base (base_shown c.in-Some.outcome.base) c.loop-cursor.cursor c.next_outcome.new.cursor c.args.a c.loop-cursor.holds c.with_range-holds.result c.in-Some.outcome.range _ (grind arith) c.with_range-holds.ensures c.loop-cursor.invariant.so_far;
      is_in = outcome-in tables.rnglists tables bases base c.loop-cursor.cursor c.next_outcome.new.cursor (outcome_shown c.in-Some.outcome) (grind arith) c.loop-cursor.invariant.is_in;
    }
