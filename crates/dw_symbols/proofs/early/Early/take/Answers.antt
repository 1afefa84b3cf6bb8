use Rattle.std.proofs.Common.{arith}
use Rattle.dw_symbols.specs.Parts.{ArePiecesOf}
use Rattle.dw_symbols.proofs.PartLemmas.{each_with, taken}
use Rattle.dw_symbols.proofs.early.Early.take.Goals as goal

pub returns-clause-found : goal.returns-clause-found
returns-clause-found c = λ file parts are.
    each_with (ArePiecesOf file parts) c.args.self.now.found.items c.args.i c.take.new.self are (λ one is. absurd cc)

pub returns-clause-part : goal.returns-clause-part
returns-clause-part c = λ file parts are.
    rw (c.take.ensures.value) (taken (ArePiecesOf file parts) c.args.self.now.found.items c.args.i c.index_mut.result.now (omega (arith, c.if-i-len.false)) c.index_mut.ensures.value are)
