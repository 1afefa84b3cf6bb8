use Rattle.dw_model.specs.Unit.{units}
use Rattle.dw_units.specs.Unit.{unit_shown}
use Rattle.a2l_lines.proofs.LineLemmas.{unit_lines-more}
use Rattle.a2l_lines.proofs.listing.listing.Goals as goal

pub loop-i-preserved : goal.loop-i-preserved
loop-i-preserved c =
    rw (unit_lines-more (units c.args.units.now.info) c.loop-i.i (unit_shown c.unit.result.now) c.unit.ensures.header, ← c.loop-i.invariant) c.in_ok-push_line.ensures
