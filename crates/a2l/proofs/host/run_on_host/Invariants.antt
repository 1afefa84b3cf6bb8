use Rattle.a2l.proofs.host.run_on_host.Given as goal

abbrev pub ghosts-served-I-Ledger : goal.ghosts-served-I-Ledger
ghosts-served-I-Ledger a b = record { name = b.input.name; parts = b.input.parts }

abbrev pub ghosts-served-O-Ledger : goal.ghosts-served-O-Ledger
ghosts-served-O-Ledger a b = record { name = b.output.name; parts = b.output.parts }

abbrev pub ghosts-served-E-Ledger : goal.ghosts-served-E-Ledger
ghosts-served-E-Ledger a b = record { name = b.errors.name; parts = b.errors.parts }
