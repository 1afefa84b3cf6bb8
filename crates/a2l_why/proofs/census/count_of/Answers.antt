use Rattle.std.proofs.Common.{◌∙◌, sym}
use Rattle.dw_model.specs.Unit as cut
use Rattle.dw_units.specs.Header.{kind_shown}
use Rattle.dw_units.specs.Unit.{unit_shown}
use Rattle.a2l_why.specs.Census.{is_kind}
use Rattle.a2l_why.proofs.CensusLemmas.{counts, passes}
use Rattle.a2l_why.proofs.census.count_of.Goals as goal

pub loop-i-preserved-then-not-is_kind : goal.loop-i-preserved-then-not-is_kind
loop-i-preserved-then-not-is_kind c =
    passes (λ unit. is_kind (kind_shown c.args.wanted) unit.kind) (cut.units c.args.units.now.info) c.loop-i.i (unit_shown c.unit.result.now) c.loop-i.count
    c.unit.ensures.header (sym c.is_kind.ensures ∙ c.if-not-is_kind.true) c.loop-i.invariant

pub loop-i-preserved : goal.loop-i-preserved
loop-i-preserved c =
    counts (λ unit. is_kind (kind_shown c.args.wanted) unit.kind) (cut.units c.args.units.now.info) c.loop-i.i (unit_shown c.unit.result.now) c.loop-i.count
    c.unit.ensures.header (sym c.is_kind.ensures ∙ c.if-not-is_kind.false) c.loop-i.invariant
