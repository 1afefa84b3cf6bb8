-- What an entry does, as the code has it.
use Rattle.std.specs.Prelude.{ℕ, Option, Result, ok_or, option_map}
use Rattle.dw_model.specs.Faults.{Bad, bad}
use Rattle.dw_ranges.specs.declared.step.Outcome.{Outcome}
use Rattle.dw_index.specs.Range.{range_shown}
use Rattle.dw_ranges.specs.Step as model

-- a base that is needed only where it is used: bad where it can't be read
abbrev pub base_shown : Option ℕ → Result ℕ Bad
base_shown base = ok_or base bad

abbrev pub outcome_shown : Outcome → model.Outcome
outcome_shown outcome = record { base = base_shown outcome.base; range = option_map range_shown outcome.range }
