use Rattle.std.proofs.Common.{◌≡◌, map, take}
use Rattle.dw_model.specs.Answer as model
use Rattle.dw_symbols.specs.Answer.{answer_shown}
use Rattle.a2l_c.proofs.session.locations_of.Given as goal

abbrev pub invariant-loop-a : goal.invariant-loop-a
invariant-loop-a l = (l.context.file ≡ l.initial.context.file) × (map answer_shown l.answers.items ≡ map (model.location l.initial.context.file) (take l.a-index l.addresses))
