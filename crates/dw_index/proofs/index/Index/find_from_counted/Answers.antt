use Rattle.std.proofs.Common.{◌≡◌, ◌∙◌, List, subst}
use Rattle.dw_index.specs.declared.segment.Segment.{Segment}
use Rattle.dw_index.specs.Search.{Passes}
use Rattle.dw_index.proofs.index.Index.find_from_counted.Goals as goal

pub returns-clause-steady : goal.returns-clause-steady
returns-clause-steady g c =
    let same : c.deref.result.now ≡ c.args.self.now = c.deref.ensures.value ∙ c.self.view_is in
    c.found.ensures.steady c.args.a c.requires.above (subst (λ (segments : List Segment). Passes segments c.args.a c.count_from-passed.result) same c.count_from-passed.ensures.passed)
