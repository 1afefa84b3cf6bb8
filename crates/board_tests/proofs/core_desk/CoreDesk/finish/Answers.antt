use Rattle.ticket_core.proofs.CallerLemmas.{held-read}
use Rattle.board_tests.proofs.core_desk.CoreDesk.finish.Goals as goal

pub answer-requires-clause-held : goal.answer-requires-clause-held
answer-requires-clause-held g c κs lives =
    held-read _ _ c.law_of_state.ensures.sound _ c.args.self.now.shaped _ c.args.self.now.same_hands _ c.requires _ c.index.ensures _ c.in-Some.is
