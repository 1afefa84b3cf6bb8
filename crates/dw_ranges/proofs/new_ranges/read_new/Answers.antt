use Rattle.std.proofs.Common.{arith}
use Rattle.dw_forms.specs.Tables.{tables_shown}
use Rattle.dw_ranges.proofs.NewLemmas.{new-on}
use Rattle.dw_ranges.proofs.new_ranges.read_new.Goals as goal

pub loop-cursor-preserved : goal.loop-cursor-preserved
loop-cursor-preserved c =
    new-on (tables_shown c.args.tables.now) c.args.list c.loop-cursor.ranges.items c.loop-cursor.begins.items c.loop-cursor.base c.loop-cursor.cursor c.loop-cursor.invariant c.next_outcome.new.cursor c.in-Some.outcome c.push_some.new.ranges.items c.push_begin.new.begins.items (grind arith) c.in_ok-push_some.ensures (rw (c.at.ensures) at c.in_ok-push_begin.ensures)
