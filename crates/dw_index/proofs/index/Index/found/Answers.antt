use Rattle.std.proofs.Common.{◌≡◌, ◌∙◌, List, ap, sym, subst}
use Rattle.dw_model.specs.Steady.{IsSteady}
use Rattle.dw_index.specs.declared.segment.Segment.{Segment}
use Rattle.dw_index.specs.Search.{Passes}
use Rattle.dw_index.specs.Segments.{owner_at}
use Rattle.dw_index.proofs.index.Index.found.Goals as goal

pub returns-clause-owner : goal.returns-clause-owner
returns-clause-owner c a passed =
    let same : c.deref.result.now ≡ c.args.self.now = c.deref.ensures.value ∙ c.self.view_is in
    let is = subst (λ (segments : List Segment). Passes segments a c.args.passed) (sym same) passed in
    c.owner_of-owner.ensures a is ∙ ap (λ (segments : List Segment). owner_at segments a) same

pub returns-clause-steady : goal.returns-clause-steady
returns-clause-steady c a below passed =
    let same : c.deref-2.result.now ≡ c.args.self.now = c.deref-2.ensures.value ∙ c.self.view_is in
    let is = subst (λ (segments : List Segment). Passes segments a c.args.passed) (sym same) passed in
    subst (λ (segments : List Segment). IsSteady (owner_at segments) a c.next_border-until.result) same (c.next_border-until.ensures a below is)
