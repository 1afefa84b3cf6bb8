use Rattle.std.proofs.Common.{◌∙◌, refl, arith}
use Rattle.dw_symbols.specs.declared.unit_walk.Part.{Part}
use Rattle.dw_symbols.proofs.PartLemmas.{is_part, one_part}
use Rattle.dw_symbols.proofs.unit_walk.UnitWalk.find_parts.Goals as goal

pub loop-at-preserved : goal.loop-at-preserved
loop-at-preserved c =
    let file = c.args.self.now in
    let rises = c.lesser-high.ensures.above c.loop-at.at c.in_ok-covered.ensures.after c.loop-at-test.true in
    let part : Part = record { unit = c.in_ok-covered.covered.unit; span = record { low = c.loop-at.at; high = c.lesser-high.result } } in
    let is = is_part file part c.in_ok-covered.covered.until rises c.lesser-high.ensures.first (rw (c.loop-at.invariant.file) at c.in_ok-covered.ensures.unit) (rw (c.loop-at.invariant.file) at c.in_ok-covered.ensures.image) in
    let more = one_part file c.args.span.low c.loop-at.at c.loop-at.parts.items part c.loop-at.invariant.parts refl is in
    record {
      file = c.in_ok-covered.ensures.file ∙ c.loop-at.invariant.file;
      from = omega (arith, rises, c.loop-at.invariant.from);
      within = c.lesser-high.ensures.second;
      parts = rw (c.in_ok-push.ensures.items) more;
    }

pub returns-then-len-most-clause-parts : goal.returns-then-len-most-clause-parts
returns-then-len-most-clause-parts c =
    let file = c.args.self.now in
    let rises = c.lesser-high.ensures.above c.loop-at.at c.in_ok-covered.ensures.after c.loop-at-test.true in
    let part : Part = record { unit = c.in_ok-covered.covered.unit; span = record { low = c.loop-at.at; high = c.lesser-high.result } } in
    let is = is_part file part c.in_ok-covered.covered.until rises c.lesser-high.ensures.first (rw (c.loop-at.invariant.file) at c.in_ok-covered.ensures.unit) (rw (c.loop-at.invariant.file) at c.in_ok-covered.ensures.image) in
    let more = one_part file c.args.span.low c.loop-at.at c.loop-at.parts.items part c.loop-at.invariant.parts refl is in
    (c.lesser-high.result, omega (arith, rises, c.loop-at.invariant.from), c.lesser-high.ensures.second, rw (c.in_ok-push.ensures.items) more)

pub returns-clause-parts : goal.returns-clause-parts
returns-clause-parts c =
    (c.loop-at.at, omega (arith, c.requires.some, c.loop-at-test.false), c.loop-at.invariant.within, c.loop-at.invariant.parts)
