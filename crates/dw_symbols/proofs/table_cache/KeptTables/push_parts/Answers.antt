use Rattle.std.proofs.Common.{◌≤◌, ◌<◌, ◌+◌, drop, length, map, arith}
use Rattle.dw_model.specs.Section.{sections}
use Rattle.dw_symbols.specs.Answer.{piece_shown}
use Rattle.dw_symbols.proofs.PartLemmas.{adds_found, adds_more, each_part, next_part, parts_rise, read_part}
use Rattle.dw_symbols.proofs.table_cache.KeptTables.push_parts.Goals as goal
use Rattle.dw_symbols.proofs.table_cache.KeptTables.push_parts.Goals.{in-Some+in_ok-append, in_default+in_ok-fault+in_default-2+in_ok-look_ahead}

pub returns-in-Some-2-clause-pieces : goal.returns-in-Some-2-clause-pieces
returns-in-Some-2-clause-pieces c =
    let file = c.args.image.now in
    let parts = c.args.parts.now in
    let part = c.index-parts-i.result in
    let inv = c.loop-i.invariant in
    let left = inv.left in
    let within : c.loop-i.i < length parts = omega (arith, c.loop-i-test.true) in
    let next = next_part file c.loop-i.at left.0 c.loop-i.i parts part left.3 within c.index-parts-i.is in
    let ends = parts_rise file part.span.high left.0 (drop (c.loop-i.i + 1) parts) next.2 in
    (c.loop-i.at, inv.from, omega (arith, next.0, next.1.rises, ends, left.2), rw (next.0) at (rw (c.in-Some-2.is) at c.in_ok-fault.ensures.pieces), map piece_shown c.loop-i.pieces.items, inv.adds)

pub look_ahead-requires-clause-parts : goal.look_ahead-requires-clause-parts
look_ahead-requires-clause-parts c =
    each_part c.args.image.now c.args.span.low c.requires.parts.0 c.args.parts.now c.requires.parts.3

pub look_ahead-requires-clause-found : goal.look_ahead-requires-clause-found
look_ahead-requires-clause-found c = c.take.ensures.found c.args.image.now c.args.parts.now c.loop-i.invariant.found

pub loop-i-preserved : goal.loop-i-preserved
loop-i-preserved c =
    let file = c.args.image.now in
    let parts = c.args.parts.now in
    let part = c.index-parts-i.result in
    let inv = c.loop-i.invariant in
    let left = inv.left in
    let within : c.loop-i.i < length parts = omega (arith, c.loop-i-test.true) in
    let next = next_part file c.loop-i.at left.0 c.loop-i.i parts part left.3 within c.index-parts-i.is in
    let s = sections file in
    let low = c.args.span.low in
    let old = map piece_shown c.args.pieces.now.items in
    let now = map piece_shown c.loop-i.pieces.items in
    let from : low ≤ part.span.high = omega (arith, inv.from, next.0, next.1.rises) in
    elim c.match-take.branch [
      | in-Some+in_ok-append w ↦
          let known = map piece_shown w.in-Some.known.pieces.items in
          let are = (rw (w.in-Some.is) at (c.take.ensures.part file parts inv.found)) part (read_part parts c.loop-i.i part within c.index-parts-i.is) in
          let adds = adds_found file part next.1 known are c.law_of_more_pieces.ensures.none c.law_of_more_pieces.ensures.one now in
          record {
            kept = rw (w.self-is) inv.kept;
            found = rw (w.early-is) (c.take.ensures.found file parts inv.found);
            from = from;
            left = (left.0, left.1, left.2, next.2);
            adds = rw (w.pieces-is, w.in_ok-append.ensures) (adds_more s low c.loop-i.at part.span.high old now _ inv.from inv.adds (rw (next.0) at adds));
          }
      | in_default+in_ok-fault+in_default-2+in_ok-look_ahead w ↦
          let adds = rw (w.in_default-2.is) at w.in_ok-fault.ensures.pieces in
          record {
            kept = rw (w.self-is) w.in_ok-look_ahead.ensures.kept;
            found = rw (w.early-is) w.in_ok-look_ahead.ensures.found;
            from = from;
            left = (left.0, left.1, left.2, next.2);
            adds = rw (w.pieces-is) (adds_more s low c.loop-i.at part.span.high old now _ inv.from inv.adds (rw (next.0) at adds));
          }
    ]
