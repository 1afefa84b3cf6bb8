use Rattle.std.proofs.Common.{arith, sym, ◌∙◌}
use Rattle.dw_line.specs.Fault.{line_fault}
use Rattle.dw_line.specs.Header.{header_shown}
use Rattle.dw_line.specs.Machine.{IsIn, IsNext, state_at}
use Rattle.dw_line.proofs.ProgramLemmas.{none_left, one_more}
use Rattle.dw_line.proofs.RunLemmas.{row_at, begins_at, goes_on, no_end, stops_above, no_none, no_fault, no_more}
use Rattle.dw_line.proofs.search.row_from.Goals as goal

pub loop-init : goal.loop-init
loop-init g c = record {
  runs = begins_at (header_shown c.args.header.now) c.args.row c.in-Some.cursor c.args.next_checkpoint c.args.address (λ there. sym c.in-Some.is ∙ c.cursor_at.ensures there);
  counted = omega arith;
}

pub returns-in_default-clause-row : goal.returns-in_default-clause-row
returns-in_default-clause-row g c = λ rows sought. cc (c.cursor_at.ensures sought.is.within)

pub returns-in_default-next_counted-clause-row : goal.returns-in_default-next_counted-clause-row
returns-in_default-next_counted-clause-row g c = λ rows sought.
    no_fault (header_shown c.args.header.now) c.args.row (row_at c.loop.last c.loop.cursor) c.loop.cursor c.args.next_checkpoint c.args.address c.loop.counter c.loop.invariant.runs rows sought
    (line_fault c.in_default-next_counted.field-0) (λ there. c.in_default-next_counted.ensures.row there)

pub returns-in_default-found-clause-row : goal.returns-in_default-found-clause-row
returns-in_default-found-clause-row g c = λ rows sought.
    let header = header_shown c.args.header.now in
    no_none header c.args.row (row_at c.loop.last c.loop.cursor) c.loop.cursor c.args.next_checkpoint c.args.address c.loop.counter c.loop.invariant.runs rows sought
    (λ there. none_left header (state_at c.loop.last c.loop.cursor) c.in-Ok.found c.next_counted.new.cursor c.in_default-found.is (c.in-Ok.ensures.row there))

pub returns-then-registers-address-clause-row : goal.returns-then-registers-address-clause-row
returns-then-registers-address-clause-row g c = λ rows sought.
    let header = header_shown c.args.header.now in
    let told : IsIn header c.loop.cursor → IsNext header (state_at c.loop.last c.loop.cursor) c.in-Some-found.appended c.next_counted.new.cursor = λ there. one_more header (state_at c.loop.last c.loop.cursor) c.in-Ok.found c.in-Some-found.appended c.next_counted.new.cursor c.in-Some-found.is (c.in-Ok.ensures.row there) in
    stops_above header c.args.row (row_at c.loop.last c.loop.cursor) c.loop.cursor c.next_counted.new.cursor c.in-Some-found.appended c.args.next_checkpoint c.args.address c.loop.counter told c.loop.invariant.runs rows sought c.at-place.result c.at-place.ensures c.if-registers-address.true

pub returns-then-appended-clause-row : goal.returns-then-appended-clause-row
returns-then-appended-clause-row g c = λ rows sought.
    let header = header_shown c.args.header.now in
    let told : IsIn header c.loop.cursor → IsNext header (state_at c.loop.last c.loop.cursor) c.in-Some-found.appended c.next_counted.new.cursor = λ there. one_more header (state_at c.loop.last c.loop.cursor) c.in-Ok.found c.in-Some-found.appended c.next_counted.new.cursor c.in-Some-found.is (c.in-Ok.ensures.row there) in
    no_end header c.args.row (row_at c.loop.last c.loop.cursor) c.loop.cursor c.next_counted.new.cursor c.in-Some-found.appended c.args.next_checkpoint c.args.address c.loop.counter told c.loop.invariant.runs rows sought c.if-registers-address.false c.if-appended.true

pub loop-preserved : goal.loop-preserved
loop-preserved g c =
    let header = header_shown c.args.header.now in
    let told : IsIn header c.loop.cursor → IsNext header (state_at c.loop.last c.loop.cursor) c.in-Some-found.appended c.next_counted.new.cursor = λ there. one_more header (state_at c.loop.last c.loop.cursor) c.in-Ok.found c.in-Some-found.appended c.next_counted.new.cursor c.in-Some-found.is (c.in-Ok.ensures.row there) in
    record {
      runs = λ rows sought. goes_on header c.args.row (row_at c.loop.last c.loop.cursor) c.loop.cursor c.next_counted.new.cursor c.in-Some-found.appended c.args.next_checkpoint c.args.address c.loop.counter told c.loop.invariant.runs rows sought c.if-registers-address.false c.if-appended.false;
      counted = omega (arith, c.next_counted.ensures.counted, c.loop.invariant.counted);
    }

pub returns-clause-row : goal.returns-clause-row
returns-clause-row g c = λ rows sought.
    no_more (header_shown c.args.header.now) c.args.row (row_at c.loop.last c.loop.cursor) c.loop.cursor c.args.next_checkpoint c.args.address c.loop.counter c.loop.invariant.runs rows sought c.loop-test.false
