use Rattle.std.proofs.Common.{arith}
use Rattle.dw_index.specs.Owners.{least_owner}
use Rattle.dw_ranges.proofs.WindowLemmas.{known_added, push_steps}
use Rattle.dw_ranges.proofs.window.draft.Draft.push.Goals as goal

pub returns : goal.returns
unfolding least_owner
returns c all from has = grind (arith, push_steps, (c.in_ok-make_room.ensures all from has))

pub returns-then-is_known : goal.returns-then-is_known
returns-then-is_known c all from has =
    known_added c.args.self.now all from c.args.range c.args.owner (rw (← c.max-begin.ensures, ← c.min-end.ensures) (c.is_known.ensures c.if-is_known.true)) has
