use Rattle.std.proofs.Common.{◌∙◌}
use Rattle.dw_units.specs.Entry.{entry_shown}
use Rattle.dw_units.proofs.AttrLemmas.{of-entry}
use Rattle.dw_units.proofs.entry.Entry.attr.Goals as goal

pub returns : goal.returns
returns c = c.counted.ensures ∙ of-entry c.args.name (entry_shown c.args.self.now)
