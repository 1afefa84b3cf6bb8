use Rattle.std.proofs.Common.{◌∙◌}
use Rattle.dw_elf.proofs.TextLemmas.{decides}
use Rattle.dw_elf.proofs.layout.begins_with.Goals as goal

pub returns-in-None : goal.returns-in-None
returns-in-None c = decides _ _ _ _ c.front.ensures (rw c.new.ensures at c.in-None.ensures.0)

pub returns-in-Some : goal.returns-in-Some
returns-in-Some c = c.eq.ensures ∙ decides _ _ _ _ c.front.ensures (rw c.new.ensures at c.in-Some.ensures)
