use Rattle.dw_index.proofs.index.Index.searched.Given as goal

abbrev pub ghosts-count_uncounted : goal.ghosts-count_uncounted
ghosts-count_uncounted a = record { name = a.blank.name; parts = a.blank.parts }
