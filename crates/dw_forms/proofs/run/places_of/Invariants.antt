use Rattle.dw_forms.specs.Run.{ArePlaces}
use Rattle.dw_forms.proofs.run.places_of.Given as goal

abbrev pub invariant-loop-i : goal.invariant-loop-i
invariant-loop-i l = ArePlaces l.from l.i l.declarations l.places
