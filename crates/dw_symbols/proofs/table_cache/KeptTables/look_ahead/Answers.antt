use Rattle.std.proofs.Common.{map, sym, subst, arith}
use Rattle.dw_model.specs.Pieces.{ArePieces, place}
use Rattle.dw_model.specs.Section.{sections}
use Rattle.dw_symbols.specs.Answer.{piece_shown}
use Rattle.dw_symbols.specs.Kept.{AreTables}
use Rattle.dw_symbols.specs.Parts.{IsPart}
use Rattle.dw_symbols.specs.declared.unit_walk.Part.{Part}
use Rattle.dw_symbols.proofs.PartLemmas.{at_part, found_of, same}
use Rattle.dw_symbols.proofs.table_cache.KeptTables.look_ahead.Goals as goal

pub loop-next-preserved-in_ok-put : goal.loop-next-preserved-in_ok-put
loop-next-preserved-in_ok-put c =
    let file = c.args.image.now in
    let parts = c.args.parts.now in
    let part = c.index-parts-next.result in
    let found = map piece_shown c.in-Some-2.found.pieces.items in
    let is = subst (IsPart file) (sym c.index-parts-next.is) (c.requires.parts c.in-Some.next part (omega (arith, c.if-next-parts.false))) in
    let unit = c.in-Some-unit.unit in
    let are = found_of file part is unit c.in-Some-unit.is found (rw (c.in-Some-2.is) at c.in_ok-found.ensures.pieces) in
    record {
      kept = subst (λ s. AreTables s.line c.pieces_of.new.self) (same file part is unit c.in-Some-unit.is) c.in_ok-found.ensures.kept;
      found = c.in_ok-put.ensures file parts c.loop-next.invariant.found
          (at_part (λ (one : Part). ArePieces (place (sections file)) one.span.low one.span.high found) parts c.in-Some.next part (omega (arith, c.if-next-parts.false)) c.index-parts-next.is are);
    }
