use Rattle.board_tests.proofs.ring_ends.two_takers.Given as goal

abbrev pub ghosts-take_two : goal.ghosts-take_two
ghosts-take_two g a = record { name = a.blank.name; parts = a.blank.parts }
