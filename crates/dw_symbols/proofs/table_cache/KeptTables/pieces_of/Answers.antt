use Rattle.std.proofs.Common.{arith}
use Rattle.dw_model.specs.Pieces.{place}
use Rattle.dw_symbols.specs.ImageUnit.{sections_in}
use Rattle.dw_symbols.proofs.PartLemmas.{no_pieces}
use Rattle.dw_symbols.proofs.table_cache.KeptTables.pieces_of.Goals as goal

pub returns-in-None-clause-pieces : goal.returns-in-None-clause-pieces
returns-in-None-clause-pieces c = λ is.
    let adds = rw (c.in-None.is, c.in_ok-pieces.ensures.items) at c.in_ok-push_pieces.ensures.pieces in
    adds is c.args.span.low (omega arith) (no_pieces (place (sections_in c.args.unit)) c.args.span.low)
