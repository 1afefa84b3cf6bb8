use Rattle.std.proofs.Common.{◌≡◌, ◌+◌, length, subst, arith}
use Rattle.std.specs.List.{AllByRecursion}
use Rattle.dw_model.specs.Unit.{StandsIn}
use Rattle.dw_model.specs.Reading.{start}
use Rattle.dw_model.proofs.CutLaws.{cut-are}
use Rattle.dw_model.proofs.BoundLemmas.{all_within, entry-bound, abbreviations-bound, number-bound, text-bound, range_list-bound, line_header-bound}
use Rattle.dw_model.proofs.laws.law_of_bounds.Goals as goal

pub returns-clause-units : goal.returns-clause-units
returns-clause-units c test info found e =
    let cut = cut-are test (start info) found e in
    let whole : 0 + length info ≡ length info = omega arith in
    subst (λ size. AllByRecursion (StandsIn size) found) whole (all_within test 0 info cut.0 found cut.1 cut.2)

pub returns-clause-entries : goal.returns-clause-entries
returns-clause-entries c = entry-bound

pub returns-clause-abbreviations : goal.returns-clause-abbreviations
returns-clause-abbreviations c = abbreviations-bound

pub returns-clause-numbers : goal.returns-clause-numbers
returns-clause-numbers c = number-bound

pub returns-clause-texts : goal.returns-clause-texts
returns-clause-texts c = text-bound

pub returns-clause-range_lists : goal.returns-clause-range_lists
returns-clause-range_lists c = range_list-bound

pub returns-clause-line_tables : goal.returns-clause-line_tables
returns-clause-line_tables c = line_header-bound
