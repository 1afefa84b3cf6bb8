use Rattle.std.proofs.Common.{◌∙◌, take, arith}
use Rattle.dw_forms.specs.Table.{declarations_of}
use Rattle.dw_units.specs.Header.{header_shown}
use Rattle.dw_units.specs.Sections.{sections_shown}
use Rattle.dw_units.proofs.PlaceLemmas.{inside, behind_all}
use Rattle.dw_units.proofs.entry.entry_in.Goals as goal

pub returns-in_default-clause-entry : goal.returns-in_default-clause-entry
returns-in_default-clause-entry c =
    let past = c.in_default.ensures in
    inside (sections_shown c.args.sections.now) (header_shown c.args.unit.now) c.args.offset (declarations_of c.args.abbrevs) (omega (arith, c.if-offset-unit.false)) (omega (arith, c.if-offset-unit-2.false)) c.requires
    ∙ behind_all (header_shown c.args.unit.now).offset_size (declarations_of c.args.abbrevs) (take c.args.unit.now.end c.args.sections.now.info.now) c.args.offset (omega (arith, past))
