-- Why no core is made.
use Rattle.std.specs.Prelude.{ℕ}
use Rattle.ticket_core.specs.declared.shape.Shape.{Shape}
use Rattle.ticket_core.specs.declared.fault.NewFault.{NewFault}
use Rattle.ticket_core.specs.declared.fault.NewFault.TheVariants.{BadShape, Memory}
use Rattle.ticket_core.specs.Shape.{Fits}

-- the numbers of the errors
abbrev pub number_of_new : NewFault → ℕ
number_of_new BadShape = 1
number_of_new Memory = 2

-- a shape past its limits is reported as that, and out of memory only of a shape within them
abbrev pub RefusesShape : NewFault → Shape → Type 0
RefusesShape BadShape shape = ¬ Fits shape
RefusesShape Memory shape = Fits shape
