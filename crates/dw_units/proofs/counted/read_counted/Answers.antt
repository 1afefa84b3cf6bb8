use Rattle.std.proofs.Common.{List, subst}
use Rattle.std.proofs.lemmas.Result.{IfOk-weaker}
use Rattle.dw_model.specs.Abbrev.{Specification}
use Rattle.dw_model.specs.Entry.{attributes_at}
use Rattle.dw_bytes.specs.Width.{size_of}
use Rattle.dw_units.specs.Counted.{AreCounted}
use Rattle.dw_units.specs.View.{attributes_in}
use Rattle.dw_units.proofs.CountedLemmas.{counted-alike}
use Rattle.dw_units.proofs.counted.read_counted.Goals as goal

pub returns-clause-counted : goal.returns-clause-counted
returns-clause-counted c =
    let size = size_of c.args.width in
    let all = c.args.declaration.now.specs in
    let p = c.args.values.now in
    IfOk-weaker c.counted_by.result
    (λ kept. AreCounted (attributes_in (attributes_at size c.in_ok-layout.layout p)) kept.items)
    (λ kept. AreCounted (attributes_in (attributes_at size all p)) kept.items)
    (λ kept counted. counted-alike size c.needed.result all p c.needed.ensures kept.items c.requires
    (subst (λ (specs : List Specification). AreCounted (attributes_in (attributes_at size specs p)) kept.items) c.in_ok-layout.ensures counted))
    c.counted_by.ensures.counted
