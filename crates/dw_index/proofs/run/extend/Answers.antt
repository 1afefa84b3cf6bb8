use Rattle.std.proofs.Common.{Some, sym}
use Rattle.dw_index.proofs.MergeLemmas.{same_owner, other_owner}
use Rattle.dw_index.proofs.RunLemmas.{extends, grows}
use Rattle.dw_index.proofs.run.extend.Goals as goal

pub returns-then-eq-clause-extended : goal.returns-then-eq-clause-extended
returns-then-eq-clause-extended c pairs r at some =
    let same = same_owner c.args.run.now.owner (Some c.args.owner) c.if-eq.ensures in
    rw same (extends pairs c.args.range.begin c.args.range.end c.args.owner some c.args.run.now.segments.items (rw (same, at) at r))

pub returns-clause-extended : goal.returns-clause-extended
returns-clause-extended c pairs r at some =
    let other = other_owner c.args.run.now.owner (Some c.args.owner) c.if-eq.ensures in
    rw (c.in_ok-push.ensures.items) (grows pairs c.args.range.begin c.args.range.end c.args.owner some c.args.run.now.segments.items c.args.run.now.owner (rw at at r) (λ e. other (sym e)))
