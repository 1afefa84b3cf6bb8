use Rattle.std.proofs.Common.{◌+◌, refl}
use Rattle.dw_model.proofs.PieceLemmas.{are_pieces, pieces_are, first_fault, fault_first}
use Rattle.dw_model.proofs.laws.law_of_pieces.Goals as goal

pub returns-clause-pieces : goal.returns-clause-pieces
returns-clause-pieces c location low count found =
    (are_pieces location count low (low + count) found refl, pieces_are location count low (low + count) found refl)

pub returns-clause-fault : goal.returns-clause-fault
returns-clause-fault c location low count found =
    (first_fault location count low (low + count) found refl, fault_first location count low (low + count) found refl)
