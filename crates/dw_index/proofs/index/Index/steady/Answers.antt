use Rattle.std.proofs.Common.{◌∙◌, List, subst, sym}
use Rattle.dw_model.specs.Steady.{IsSteady}
use Rattle.dw_index.specs.Search.{Passes}
use Rattle.dw_index.specs.Segments.{owner_at}
use Rattle.dw_index.specs.declared.segment.Segment.{Segment}
use Rattle.dw_index.proofs.index.Index.steady.Goals as goal

pub returns : goal.returns
returns c =
    let same = c.deref.ensures.value ∙ c.self.view_is in
    let is = subst (λ (s : List Segment). Passes s c.args.a c.searched.result) (sym same) c.searched.ensures in
    record { steady = subst (λ (s : List Segment). IsSteady (owner_at s) c.args.a c.next_border.result) same (c.next_border.ensures c.args.a c.requires.above is) }
