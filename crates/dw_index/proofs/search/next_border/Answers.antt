use Rattle.std.proofs.Common.{◌<◌, length, subst, ℕ, arith}
use Rattle.dw_model.specs.Steady.{IsSteady}
use Rattle.dw_index.specs.Segments.{owner_at}
use Rattle.dw_index.proofs.SegmentLemmas.{begin_at-get, no_segment}
use Rattle.dw_index.proofs.SteadyLemmas.{steady_to_the_end, steady_to_a_border}
use Rattle.dw_index.proofs.search.next_border.Goals as goal

pub returns-then-passed-segments : goal.returns-then-passed-segments
returns-then-passed-segments c = λ a order is.
    steady_to_the_end c.args.segments.now a 18446744073709551615 c.args.passed order (omega arith) (omega (arith, c.if-passed-segments.true)) is.before

pub returns : goal.returns
returns c = λ a order is.
    let n = c.args.passed in
    let within : n < length c.args.segments.now = omega (arith, c.if-passed-segments.false) in
    subst (λ (next : ℕ). IsSteady (owner_at c.args.segments.now) a next) (begin_at-get c.args.segments.now n no_segment within)
    (steady_to_a_border c.args.segments.now a n c.requires within is.before is.behind)
