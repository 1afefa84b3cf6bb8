-- The job that words name.
use Rattle.std.specs.Prelude.{◌≡◌, List, [], Some, Ok, codes, map}
use Rattle.clap.specs.Words.{Text, fault_of, first_of}
use Rattle.a2l_lines.specs.Input.{word_shown}
use Rattle.a2l_lines.specs.Text.{options_shown}
use Rattle.a2l.specs.declared.command.Job.{Job}
use Rattle.a2l.specs.Command.{AsksFor}
use Rattle.a2l.specs.CommandLine.{command_line, found_in, is_set, options_in, words_in}

-- `clap` accepts the words. Each field of the job is what is found of its argument in the words,
-- and numbers are what the text of their options asks for: 4 workers and 1 sender where there is
-- none.
pub record IsNamed (words : List Text) (job : Job) : Type 0 where
  pub accepted : fault_of command_line words ≡ []
  pub file : first_of (codes "file") (found_in words) ≡ Some job.file.now
  pub units : job.units ≡ is_set (codes "units") (found_in words)
  pub options : options_shown job.options ≡ options_in (found_in words)
  pub addresses : map word_shown job.options.words.items ≡ words_in (found_in words)
  pub workers : AsksFor (first_of (codes "workers") (found_in words)) 4 (Ok job.options.workers)
  pub senders : AsksFor (first_of (codes "senders") (found_in words)) 1 (Ok job.options.senders)

-- they name some job
abbrev pub NameJob : List Text → Type 0
NameJob words = (job : Job) × IsNamed words job
