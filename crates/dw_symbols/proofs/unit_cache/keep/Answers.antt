use Rattle.dw_symbols.specs.Kept.{IsTreeAt}
use Rattle.dw_symbols.proofs.KeptLemmas.{after-put}
use Rattle.dw_symbols.proofs.unit_cache.keep.Goals as goal

pub returns-in-Ok : goal.returns-in-Ok
returns-in-Ok c s all own = after-put (IsTreeAt s) c.args.kept.now c.put.new.self c.args.place c.args.tree c.in-Ok.ensures.entries all own
