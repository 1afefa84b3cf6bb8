use Rattle.std.proofs.Common.{◌-◌}
use Rattle.dw_forms.specs.Tables.{tables_shown}
use Rattle.dw_ranges.specs.Claims.{owner_of}
use Rattle.dw_frames.specs.Drafts.{outermost}
use Rattle.dw_frames.specs.Tree.{inwards}
use Rattle.dw_frames.proofs.InwardsLemmas.{Found}
use Rattle.dw_frames.proofs.chains.Chains.at.Given as goal

abbrev pub invariant-loop : goal.invariant-loop
invariant-loop l =
    Found (tables_shown l.tables) l.self l.a l.ids.items (l.end - l.counter) l.number (inwards (tables_shown l.tables) l.self l.a l.end (owner_of (tables_shown l.tables) l.self.owners outermost l.a))
