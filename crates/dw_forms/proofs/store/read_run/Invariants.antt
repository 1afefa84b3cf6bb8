use Rattle.std.proofs.Common.{length, map}
use Rattle.dw_forms.specs.Starts.{AreApart}
use Rattle.dw_forms.specs.Store.{AreChained}
use Rattle.dw_forms.specs.declared.declaration.Decl.{Decl}
use Rattle.dw_forms.proofs.store.read_run.Given as goal

abbrev pub invariant-loop-start : goal.invariant-loop-start
invariant-loop-start l = AreChained l.fn.cursor l.declarations.items l.cursor × AreApart l.starts (map (λ (d : Decl). d.offset) l.declarations.items)

abbrev pub decreases-loop-start : goal.decreases-loop-start
decreases-loop-start l = length l.cursor.left
