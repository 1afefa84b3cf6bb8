use Rattle.std.proofs.Common.{◌<◌, ◌+◌, ◌-◌, ◌/◌, length, get_or, sym, ◌∙◌, arith}
use Rattle.std.proofs.lemmas.Bool.{leb-true, leb-false}
use Rattle.dw_index.proofs.CountLemmas.{starts, halves, in_bound, needs, needs_less, needs_none}
use Rattle.dw_index.proofs.SegmentLemmas.{begin_at-get, no_segment, passed_to, behind_from}
use Rattle.dw_index.proofs.search.count_passed.Goals as goal

pub loop-low-init : goal.loop-low-init
loop-low-init g c = grind (arith, starts, needs)

pub loop-low-preserved-then-begins_by : goal.loop-low-preserved-then-begins_by
loop-low-preserved-then-begins_by g c =
    let inv = c.loop-low.invariant in
    let middle = c.loop-low.low + (c.loop-low.high - c.loop-low.low) / 2 in
    let within : middle < length c.args.segments.now = omega arith in
    let begin = begin_at-get c.args.segments.now middle no_segment within in
    let below = leb-true (get_or c.args.segments.now middle no_segment).begin c.args.a (sym c.begins_by.ensures.begins ∙ c.if-begins_by.true) in
    let size = c.loop-low.high - c.loop-low.low in
    let half = c.loop-low.high - (middle + 1) in
    record {
      order = omega arith;
      within = inv.within;
      passed = passed_to c.args.segments.now c.requires c.args.a middle within (omega (arith, begin, below));
      behind = inv.behind;
      counted = λ digits h. halves size half c.loop-low.steps c.begins_by.new.steps (c.args.steps.now + digits) (omega arith) (omega arith) c.begins_by.ensures.counted (inv.counted digits h);
      least = λ halvings h. needs_less size half c.loop-low.steps c.begins_by.new.steps (c.args.steps.now + halvings) (omega arith) c.begins_by.ensures.counted (inv.least halvings h);
    }

pub loop-low-preserved : goal.loop-low-preserved
loop-low-preserved g c =
    let inv = c.loop-low.invariant in
    let middle = c.loop-low.low + (c.loop-low.high - c.loop-low.low) / 2 in
    let within : middle < length c.args.segments.now = omega arith in
    let begin = begin_at-get c.args.segments.now middle no_segment within in
    let above = leb-false (get_or c.args.segments.now middle no_segment).begin c.args.a (sym c.begins_by.ensures.begins ∙ c.if-begins_by.false) in
    let size = c.loop-low.high - c.loop-low.low in
    let half = middle - c.loop-low.low in
    record {
      order = omega arith;
      within = omega (arith, within);
      passed = inv.passed;
      behind = behind_from c.args.segments.now c.requires c.args.a middle within (omega (arith, begin, above));
      counted = λ digits h. halves size half c.loop-low.steps c.begins_by.new.steps (c.args.steps.now + digits) (omega arith) (omega arith) c.begins_by.ensures.counted (inv.counted digits h);
      least = λ halvings h. needs_less size half c.loop-low.steps c.begins_by.new.steps (c.args.steps.now + halvings) (omega arith) c.begins_by.ensures.counted (inv.least halvings h);
    }

pub returns-clause-counted : goal.returns-clause-counted
returns-clause-counted g c digits h = grind (arith, in_bound, c.loop-low.invariant.counted digits h)

pub returns-clause-least : goal.returns-clause-least
returns-clause-least g c halvings h = grind (arith, needs_none, c.loop-low.invariant.least halvings h)
