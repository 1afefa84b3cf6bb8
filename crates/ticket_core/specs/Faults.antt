-- The numbers of the errors.
use Rattle.std.specs.Prelude.{ℕ}
use Rattle.ticket_core.specs.declared.fault.CoreFault.{CoreFault}
use Rattle.ticket_core.specs.declared.fault.CoreFault.TheVariants.{Full, Closed, Exhausted, NotAsked, HandFull}
use Rattle.ticket_core.specs.declared.fault.CoreFault.TheVariants.{HandEmpty, NotReady, Ended, Memory}

abbrev pub number_of : CoreFault → ℕ
number_of Full = 1
number_of Closed = 2
number_of Exhausted = 3
number_of NotAsked = 4
number_of HandFull = 5
number_of HandEmpty = 6
number_of NotReady = 7
number_of Ended = 8
number_of Memory = 9
