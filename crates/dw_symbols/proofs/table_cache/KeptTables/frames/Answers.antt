use Rattle.dw_symbols.proofs.TableLemmas.{named-found, named-used}
use Rattle.dw_symbols.proofs.table_cache.KeptTables.frames.Goals as goal

pub frames_by-requires-2 : goal.frames_by-requires-2
frames_by-requires-2 c =
    record { named = named-found _ _ _ c.hold.new.self c.open-here.ensures.sections c.hold.ensures.kept c.in-Some.offset _ c.in-Some.ensures c.in-Some-get_mut.ensures.value }

pub returns-clause-kept : goal.returns-clause-kept
returns-clause-kept c =
    named-used _ _ _ c.hold.new.self c.open-here.ensures.sections c.hold.ensures.kept c.in-Some.offset _ c.in-Some.ensures c.frames_by-2.ensures.named
