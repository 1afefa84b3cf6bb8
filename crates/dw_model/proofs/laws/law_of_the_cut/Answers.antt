use Rattle.std.proofs.Common.{refl}
use Rattle.dw_model.specs.Reading.{start}
use Rattle.dw_model.proofs.CutLaws.{cut-are, cut-ok, only_cut}
use Rattle.dw_model.proofs.laws.law_of_the_cut.Goals as goal

pub returns-clause-cut : goal.returns-clause-cut
returns-clause-cut c test info found =
    (cut-are test (start info) found, λ x. cut-ok test x.0 (start info) info found refl x.1 x.2)

pub returns-clause-only : goal.returns-clause-only
returns-clause-only c info first second h k = only_cut first second info info refl h k
