use Rattle.a2l.proofs.tests.run_in.Given as goal

abbrev pub ghosts-run_counted-I-Ledger : goal.ghosts-run_counted-I-Ledger
ghosts-run_counted-I-Ledger a b = record { name = b.input.name; parts = b.input.parts }

abbrev pub ghosts-run_counted-O-Ledger : goal.ghosts-run_counted-O-Ledger
ghosts-run_counted-O-Ledger a b = record { name = b.output.name; parts = b.output.parts }

abbrev pub ghosts-run_counted-E-Ledger : goal.ghosts-run_counted-E-Ledger
ghosts-run_counted-E-Ledger a b = record { name = b.errors.name; parts = b.errors.parts }
