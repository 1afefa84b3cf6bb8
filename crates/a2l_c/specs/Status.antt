-- The numbers of how calls end, as the header has them.
use Rattle.std.specs.Prelude.{ℕ}
use Rattle.a2l_c.specs.declared.status.Status.{Status}
use Rattle.a2l_c.specs.declared.status.Status.TheVariants as statuses

abbrev pub number_of : Status → ℕ
number_of statuses.Done = 0
number_of statuses.Memory = 1
number_of statuses.Refused = 2
number_of statuses.Capacity = 3
number_of statuses.Closed = 4
number_of statuses.Open = 5
number_of statuses.Outside = 6
number_of statuses.Short = 7
