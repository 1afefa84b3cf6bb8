use Rattle.std.proofs.Common.{arith}
use Rattle.dw_line.specs.Header.{header_shown}
use Rattle.dw_line.specs.Machine.{state_at}
use Rattle.dw_line.proofs.LeapLemmas.{begins, goes_on, leaps_on}
use Rattle.dw_line.proofs.MachineLemmas.{shorter}
use Rattle.dw_line.proofs.ProgramLemmas.{one_more}
use Rattle.dw_line.proofs.leaps.long_ways.Goals.{then-saturating_sub-gt-BYTES_APART+in_ok-push, else-saturating_sub-gt-BYTES_APART}
use Rattle.dw_line.proofs.leaps.long_ways.Goals as goal

pub loop-next-init : goal.loop-next-init
loop-next-init c =
    begins (header_shown c.args.header.now) c.new-leaps.result.items c.new-cursor.result c.new-leaps.ensures.items c.new-cursor.ensures

pub loop-next-smaller : goal.loop-next-smaller
loop-next-smaller c =
    let row = one_more (header_shown c.args.header.now) (state_at c.loop-next.registers c.loop-next.cursor) c.in-Ok-Some.field-0 c.in-Ok-Some.next c.next_row.new.cursor c.in-Ok-Some.field-0-is c.in-Ok-Some.ensures in
    shorter c.loop-next.cursor c.next_row.new.cursor row.spans

pub loop-next-preserved : goal.loop-next-preserved
loop-next-preserved c =
    let header = header_shown c.args.header.now in
    let registers = c.loop-next.registers in
    let old = c.loop-next.cursor in
    let new = c.next_row.new.cursor in
    let row = one_more header (state_at registers old) c.in-Ok-Some.field-0 c.in-Ok-Some.next new c.in-Ok-Some.field-0-is c.in-Ok-Some.ensures in
    elim c.if-saturating_sub-gt-BYTES_APART.branch [
      | then-saturating_sub-gt-BYTES_APART+in_ok-push w ↦
          rw (w.leaps-is, w.in_ok-push.ensures.items)
          (leaps_on header c.loop-next.leaps.items registers old new c.in-Ok-Some.next c.loop-next.invariant row c.at-place.result c.at-place-in-loop-next.result c.at-place.ensures c.at-place-in-loop-next.ensures (omega arith))
      | else-saturating_sub-gt-BYTES_APART w ↦
          rw (w.leaps-is) (goes_on header c.loop-next.leaps.items registers old new c.in-Ok-Some.next c.loop-next.invariant row)
    ]
