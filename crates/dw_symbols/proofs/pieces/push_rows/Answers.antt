use Rattle.std.proofs.Common.{◌≡◌, ◌≤◌, ◌∙◌, map, refl, ap, arith}
use Rattle.dw_line.specs.Lines.{lines_shown}
use Rattle.dw_line.specs.Walked.{Walked, IsStretch}
use Rattle.dw_symbols.specs.Answer.{piece_shown}
use Rattle.dw_symbols.proofs.SpanLemmas.{stretch_added, all_added}
use Rattle.dw_symbols.proofs.pieces.push_rows.Goals as goal

pub returns-in_default : goal.returns-in_default
returns-in_default c =
    let ended : c.args.high ≤ c.loop-stretch.walk.at = omega (arith, c.in_default.ensures.ended refl, c.loop-stretch.invariant.high) in
    all_added (lines_shown c.args.lines.now) c.args.low c.args.high c.loop-stretch.walk.at (map piece_shown c.args.pieces.now.items) (map piece_shown c.loop-stretch.pieces.items) c.loop-stretch.invariant.within ended c.loop-stretch.invariant.added

pub loop-stretch-preserved : goal.loop-stretch-preserved
loop-stretch-preserved c =
    let table = c.args.lines.now in
    let walk = c.loop-stretch.walk in
    let stretch = c.in-Some.stretch in
    let old = map piece_shown c.args.pieces.now.items in
    let moved = c.in-Some.ensures.moved in
    let at : c.next.new.self.at ≡ stretch.end = ap (λ (walk : Walked). walk.at) moved in
    let is : IsStretch table.rows walk.at c.args.high stretch = rw (c.loop-stretch.invariant.table, c.loop-stretch.invariant.high) at c.in-Some.ensures.stretch in
    let added = stretch_added (lines_shown table) c.args.low c.args.high walk.at stretch old (map piece_shown c.loop-stretch.pieces.items) (map piece_shown c.push_stretch.new.pieces.items) c.loop-stretch.invariant.above is c.loop-stretch.invariant.added c.in_ok-push_stretch.ensures.pieces in
    record {
      table = ap (λ (walk : Walked). walk.table) moved ∙ c.loop-stretch.invariant.table;
      high = ap (λ (walk : Walked). walk.high) moved ∙ c.loop-stretch.invariant.high;
      above = omega (arith, c.loop-stretch.invariant.above, is.rises, at);
      within = omega (arith, is.within, at);
      paths = c.in_ok-push_stretch.ensures.paths;
      added = rw at added;
    }
