use Rattle.std.proofs.Common.{List, Some, subst, sym}
use Rattle.dw_model.specs.Abbrev.{Specification}
use Rattle.dw_bytes.specs.Width.{size_of}
use Rattle.dw_forms.specs.Size.{values_size}
use Rattle.dw_forms.proofs.SizeLemmas.{Counts, counts-all, told-skip}
use Rattle.dw_forms.proofs.pairs.Specs.size.Goals as goal

pub returns-clause-skips : goal.returns-clause-skips
returns-clause-skips c =
    let w = size_of c.args.width in
    let all = values_size w c.args.self.now in
    let counts = subst (λ (left : List Specification). Counts w c.loop-spec.size left all) c.in_default.ensures.0 c.loop-spec.invariant.1 in
    told-skip w c.args.self.now (Some c.loop-spec.size) (sym (counts-all w c.loop-spec.size all c.loop-spec.invariant.0 counts))
