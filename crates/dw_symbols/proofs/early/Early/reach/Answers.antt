use Rattle.dw_symbols.specs.Parts.{ArePiecesOf}
use Rattle.dw_symbols.proofs.PartLemmas.{each_none}
use Rattle.dw_symbols.proofs.early.Early.reach.Goals as goal

pub loop-self-preserved : goal.loop-self-preserved
loop-self-preserved c = λ file parts are.
    rw (c.in_ok-push.ensures.items) (each_none (ArePiecesOf file parts) c.loop-self.self.found.items (c.loop-self.invariant file parts are))
