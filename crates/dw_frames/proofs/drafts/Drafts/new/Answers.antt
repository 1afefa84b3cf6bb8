use Rattle.std.proofs.Common.{refl}
use Rattle.dw_ranges.specs.Claims.{held_claims}
use Rattle.dw_frames.proofs.drafts.Drafts.new.Goals as goal

pub returns : goal.returns
unfolding held_claims
returns c = rw (c.new.ensures.items, c.new-2.ensures, c.new-3.ensures.items) refl
