use Rattle.dw_line.proofs.lines.Lines.find_row.Given as goal

abbrev pub ghosts-row_uncounted : goal.ghosts-row_uncounted
ghosts-row_uncounted a = record { name = a.blank.name; parts = a.blank.parts }
