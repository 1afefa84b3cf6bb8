use Rattle.a2l_lines.specs.Text.{options_shown}
use Rattle.a2l_lines.proofs.report.report_of.Given as goal

abbrev pub ghosts-reply_all : goal.ghosts-reply_all
ghosts-reply_all g a = record { options = options_shown a.options.now }
