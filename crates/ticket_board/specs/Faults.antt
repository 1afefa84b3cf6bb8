-- The numbers of the errors.
use Rattle.std.specs.Prelude.{ℕ}
use Rattle.ticket_core.specs.declared.shape.Shape.{Shape}
use Rattle.ticket_core.specs.Shape.{Fits}
use Rattle.ticket_board.specs.declared.fault.BoardFault.{BoardFault}
use Rattle.ticket_board.specs.declared.fault.BoardFault.TheVariants.{BadShape, Memory}
use Rattle.ticket_board.specs.declared.pool.fault.PoolFault.{PoolFault}
use Rattle.ticket_board.specs.declared.pool.fault.PoolFault.TheVariants as pool_faults
use Rattle.ticket_board.specs.declared.fault.AskFault.{AskFault}
use Rattle.ticket_board.specs.declared.fault.AskFault.TheVariants.{Full, Closed, Exhausted}

abbrev pub number_of_board : BoardFault → ℕ
number_of_board BadShape = 1
number_of_board Memory = 2

abbrev pub number_of_pool : PoolFault → ℕ
number_of_pool pool_faults.BadShape = 1
number_of_pool pool_faults.Memory = 2

abbrev pub number_of_ask : AskFault → ℕ
number_of_ask Full = 1
number_of_ask Closed = 2
number_of_ask Exhausted = 3

-- a shape past its limits is reported as that, and out of memory only of a shape within them
abbrev pub RefusesShape : BoardFault → Shape → Type 0
RefusesShape BadShape shape = ¬ Fits shape
RefusesShape Memory shape = Fits shape

-- a board that isn't opened leaves the pool without answers, for the same reason
abbrev pub pool_fault : BoardFault → PoolFault
pool_fault BadShape = pool_faults.BadShape
pool_fault Memory = pool_faults.Memory
