use Rattle.std.proofs.Common.{◌∙◌, take, sym, ap, arith}
use Rattle.dw_forms.specs.Table.{declarations_of}
use Rattle.dw_units.specs.Header.{header_shown}
use Rattle.dw_units.specs.Sections.{sections_shown}
use Rattle.dw_units.specs.View.{found_in}
use Rattle.dw_units.proofs.PlaceLemmas.{inside, behind_all}
use Rattle.dw_units.proofs.view.view_in.Goals as goal

pub returns-in_err-cursor : goal.returns-in_err-cursor
returns-in_err-cursor c =
    let past = c.in_err-cursor.ensures in
    rw (c.from_residual.ensures) (sym (ap found_in (inside (sections_shown c.args.sections.now) (header_shown c.args.unit.now) c.args.offset (declarations_of c.args.abbrevs) (omega (arith, c.if-offset-unit.false)) (omega (arith, c.if-offset-unit-2.false)) c.requires.table
    ∙ behind_all (header_shown c.args.unit.now).offset_size (declarations_of c.args.abbrevs) (take c.args.unit.now.end c.args.sections.now.info.now) c.args.offset (omega (arith, past)))))
