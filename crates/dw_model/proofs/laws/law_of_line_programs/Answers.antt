use Rattle.dw_model.proofs.ProgramLemmas.{instructions-are, are-instructions, alone}
use Rattle.dw_model.proofs.laws.law_of_line_programs.Goals as goal

pub returns-clause-spelled : goal.returns-clause-spelled
returns-clause-spelled c header list = (instructions-are header list, are-instructions header list)

pub returns-clause-alone : goal.returns-clause-alone
returns-clause-alone c = alone
