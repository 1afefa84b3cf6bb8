use Rattle.std.proofs.Common.{subst}
use Rattle.dw_units.specs.Entries.{Walk}
use Rattle.dw_units.specs.Layouts.{AreOf}
use Rattle.dw_units.proofs.entries.Entries.into_layouts.Goals as goal

pub returns : goal.returns
returns c = subst (λ (walk : Walk). AreOf walk.declarations c.self.inside.layouts) c.self.view_is c.self.invariant.layouts
