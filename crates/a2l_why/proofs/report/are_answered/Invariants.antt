use Rattle.std.proofs.Common.{◌≡◌, map, take}
use Rattle.std.specs.List.{list_all}
use Rattle.a2l_why.specs.Told.{answer_told, is_answered}
use Rattle.a2l_why.proofs.report.are_answered.Given as goal

abbrev pub invariant-loop-told : goal.invariant-loop-told
invariant-loop-told l = l.all ≡ list_all is_answered (map answer_told (take l.told-index l.tolds))
