use Rattle.dw_symbols.proofs.TableLemmas.{named-found, named-used}
use Rattle.dw_symbols.proofs.table_cache.KeptTables.push_pieces.Goals as goal

pub push_pieces_by-requires-2-clause-named : goal.push_pieces_by-requires-2-clause-named
push_pieces_by-requires-2-clause-named c =
    named-found _ _ _ c.hold.new.self c.open-here.ensures.sections c.hold.ensures.kept c.in-Some.offset _ c.in-Some.ensures c.in-Some-get_mut.ensures.value

pub returns-clause-kept : goal.returns-clause-kept
returns-clause-kept c =
    named-used _ _ _ c.hold.new.self c.open-here.ensures.sections c.hold.ensures.kept c.in-Some.offset _ c.in-Some.ensures c.push_pieces_by-2.ensures.named
