-- What a session is seen as.
use Rattle.std.specs.Prelude.{map}
use Rattle.dw_symbols.specs.Answer.{answer_shown}
use Rattle.a2l_c.specs.declared.session.Session.TheInside.{Inside}
use Rattle.a2l_c.specs.SessionState.{SessionState}

abbrev pub state_of : Inside → SessionState
state_of session = record { file = session.context.file; answers = map answer_shown session.answers.items }
