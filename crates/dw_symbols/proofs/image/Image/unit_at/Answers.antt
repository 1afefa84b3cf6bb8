use Rattle.std.proofs.Common.{arith}
use Rattle.dw_symbols.proofs.ImageLemmas.{found-unit}
use Rattle.dw_symbols.proofs.image.Image.unit_at.Goals as goal

pub returns-clause-unit : goal.returns-clause-unit
returns-clause-unit c =
    grind (arith, found-unit, c.self.invariant.finds c.args.a)

pub returns-in_err-index-clause-unit : goal.returns-in_err-index-clause-unit
returns-in_err-index-clause-unit c =
    grind (arith, found-unit, c.self.invariant.finds c.args.a)
