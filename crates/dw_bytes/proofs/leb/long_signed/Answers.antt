use Rattle.std.proofs.Common.{◌∙◌, sym}
use Rattle.dw_bytes.proofs.GroupLemmas.{below_none, below_some}
use Rattle.dw_bytes.proofs.leb.long_signed.Goals as goal

pub returns-in_err-below : goal.returns-in_err-below
returns-in_err-below c =
    rw (c.from_residual.ensures) (below_none c.args.bytes.now (sym c.negative.ensures ∙ c.if-negative.true) c.in_err-below.ensures)

pub returns-then-negative : goal.returns-then-negative
returns-then-negative c =
    below_some c.args.bytes.now c.in_ok-below.below (sym c.negative.ensures ∙ c.if-negative.true) c.in_ok-below.ensures
