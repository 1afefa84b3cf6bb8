use Rattle.ticket_board.proofs.worker.Worker.turn.Given as goal

abbrev pub ghosts-turn_uncounted : goal.ghosts-turn_uncounted
ghosts-turn_uncounted g a = record { name = a.blank.name; parts = a.blank.parts }
