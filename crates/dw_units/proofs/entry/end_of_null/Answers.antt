use Rattle.std.proofs.Common.{◌∙◌, None, arith, ap}
use Rattle.dw_model.specs.Reading.{Place}
use Rattle.dw_bytes.specs.Leb.{leb_fault}
use Rattle.dw_units.specs.Header.{header_shown}
use Rattle.dw_units.specs.Sections.{sections_shown}
use Rattle.dw_units.proofs.PlaceLemmas.{entry-within, null-past, null-read}
use Rattle.dw_units.proofs.entry.end_of_null.Goals as goal

pub returns-in_default : goal.returns-in_default
returns-in_default c =
    let within = entry-within (sections_shown c.args.sections.now) (header_shown c.args.unit.now) c.args.offset (None, c.requires.0) c.requires.1 in
    absurd (omega (arith, within, c.in_default.ensures))

pub returns-in_default-uleb : goal.returns-in_default-uleb
returns-in_default-uleb c =
    absurd (null-read (sections_shown c.args.sections.now) (header_shown c.args.unit.now) c.args.offset c.in-Some.cursor c.requires.0 (leb_fault c.in_default-uleb.field-0) c.in-Some.ensures c.in_default-uleb.ensures.0 c.requires.1)

pub returns : goal.returns
returns c =
    let same = null-past (sections_shown c.args.sections.now) (header_shown c.args.unit.now) c.args.offset c.in-Some.cursor c.uleb.new.self c.requires.0 c.in-Ok.field-0 c.in-Some.ensures c.in-Ok.ensures c.requires.1 in
    (c.requires.0, c.requires.1, c.at.ensures ∙ ap (λ (p : Place). p.at) same)
