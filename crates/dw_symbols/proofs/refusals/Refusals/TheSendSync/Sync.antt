-- A count owns nothing, so threads may share it.
use denote.Param.Send.{IsSync, part_keyless}
use Rattle.dw_symbols.specs.contracts.refusals.Refusals.{the_row}
use Rattle.dw_symbols.proofs.refusals.Refusals.TheSendSync.Send.{send}

pub sync : IsSync the_row
sync = record { shared = λ d b o κ q. part_keyless the_row send q d b o }
