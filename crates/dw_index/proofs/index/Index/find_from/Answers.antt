use Rattle.dw_index.proofs.index.Index.find_from.Goals as goal

pub returns-clause-steady : goal.returns-clause-steady
returns-clause-steady c = c.found.ensures.steady c.args.a c.requires.above c.passed.ensures
