use Rattle.dw_index.proofs.index.Index.passed.Given as goal

abbrev pub ghosts-count_from_uncounted : goal.ghosts-count_from_uncounted
ghosts-count_from_uncounted a = record { name = a.blank.name; parts = a.blank.parts }
