use Rattle.std.proofs.Common.{◌≡◌, Some, subst, arith}
use Rattle.std.proofs.lemmas.Option.{same_Some}
use Rattle.dw_symbols.specs.Parts.{ArePiecesOf}
use Rattle.dw_symbols.proofs.PartLemmas.{each_with}
use Rattle.dw_symbols.proofs.early.Early.put.Goals as goal

pub returns-then-i-len : goal.returns-then-i-len
returns-then-i-len c = λ file parts are pieces.
    each_with (ArePiecesOf file parts) c.reach.new.self.found.items c.args.i (Some c.args.part) (c.in_ok-reach.ensures file parts are)
    (λ one is. let same : c.args.part ≡ one = grind (arith, same_Some) in subst (ArePiecesOf file parts c.args.i) same pieces)
