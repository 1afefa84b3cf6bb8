use Rattle.std.proofs.Common.{List, ℕ, ◌+◌, ◌-◌, length}
use Rattle.dw_symbols.specs.Parts.{AreFound}
use Rattle.dw_symbols.specs.declared.unit_walk.Part.{Part}
use Rattle.dw_symbols.proofs.early.Early.reach.Given as goal

abbrev pub invariant-loop-self : goal.invariant-loop-self
invariant-loop-self l = (file : List ℕ) (parts : List Part) → AreFound file parts l.fn.self → AreFound file parts l.self

abbrev pub decreases-loop-self : goal.decreases-loop-self
decreases-loop-self l = l.i + 1 - length l.self.found.items
