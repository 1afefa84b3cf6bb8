use Rattle.std.proofs.Common.{◌≡◌, ◌∙◌, ◌<◌, length, sym, ap, arith, Ok, Some}
use Rattle.std.specs.Prelude.{option_map}
use Rattle.std.proofs.lemmas.Result.{err_from_is_err_and}
use Rattle.dw_model.specs.Section.{sections}
use Rattle.dw_model.specs.Unit.{untested, piece_at}
use Rattle.dw_model.specs.Root.{unit_refusal}
use Rattle.dw_model.proofs.UnitLemmas.{piece_at-left}
use Rattle.dw_elf.specs.OpenFault.{refusal_of}
use Rattle.dw_units.specs.Header.{header_shown}
use Rattle.dw_units.specs.Sections.{sections_shown}
use Rattle.dw_units.proofs.CutLemmas.{passes-padding, passes-unit, header-refused, root-refused, refused-of, cut-whole, none-refused}
use Rattle.dw_units.proofs.units.Units.read.Goals as goal

pub returns-in_err-header-clause-refused : goal.returns-in_err-header-clause-refused
returns-in_err-header-clause-refused c =
    let more : 0 < length c.loop-cursor.cursor.left = omega arith in
    let told = header-refused (sections_shown c.of-sections.result) c.loop-cursor.abbrevs c.loop-cursor.units.items c.loop-cursor.cursor (refusal_of c.in_err-header.field-0.0) more c.in_err-header.ensures.header c.loop-cursor.invariant in
    let p = err_from_is_err_and c.from_residual.result c.from_residual.ensures.1 in
    rw (p.1, p.2) (refused-of (sections_shown c.of-sections.result) (sections c.args.elf.now) (refusal_of c.in_err-header.field-0.0) c.of-sections.ensures told)

pub loop-cursor-smaller-in_default : goal.loop-cursor-smaller-in_default
loop-cursor-smaller-in_default c =
    piece_at-left untested c.loop-cursor.cursor (option_map header_shown c.in_ok-header.field-0, c.piece.new.cursor) c.in_ok-header.ensures.header

pub loop-cursor-preserved-in_default : goal.loop-cursor-preserved-in_default
loop-cursor-preserved-in_default c =
    let more : 0 < length c.loop-cursor.cursor.left = omega arith in
    passes-padding (sections_shown c.of-sections.result) c.loop-cursor.abbrevs c.loop-cursor.units.items c.loop-cursor.cursor c.piece.new.cursor more (c.in_ok-header.ensures.header ∙ ap (λ found. Ok (option_map header_shown found, c.piece.new.cursor)) c.in_default.is) c.loop-cursor.invariant

pub returns-in_err-unit-clause-refused : goal.returns-in_err-unit-clause-refused
returns-in_err-unit-clause-refused c =
    let more : 0 < length c.loop-cursor.cursor.left = omega arith in
    let piece : piece_at untested c.loop-cursor.cursor ≡ Ok (Some (header_shown c.in-Some.header), c.piece.new.cursor) = c.in_ok-header.ensures.header ∙ ap (λ found. Ok (option_map header_shown found, c.piece.new.cursor)) c.in-Some.is in
    let told = root-refused (sections_shown c.of-sections.result) c.loop-cursor.abbrevs c.loop-cursor.units.items c.loop-cursor.cursor c.piece.new.cursor (header_shown c.in-Some.header) (refusal_of c.in_err-unit.field-0.0) more piece c.in_err-unit.ensures.root c.loop-cursor.invariant in
    let p = err_from_is_err_and c.from_residual-in_err-unit.result c.from_residual-in_err-unit.ensures.1 in
    rw (p.1, p.2) (refused-of (sections_shown c.of-sections.result) (sections c.args.elf.now) (refusal_of c.in_err-unit.field-0.0) c.of-sections.ensures told)

pub loop-cursor-smaller : goal.loop-cursor-smaller
loop-cursor-smaller c =
    piece_at-left untested c.loop-cursor.cursor (option_map header_shown c.in_ok-header.field-0, c.piece.new.cursor) c.in_ok-header.ensures.header

pub loop-cursor-preserved : goal.loop-cursor-preserved
loop-cursor-preserved c =
    let more : 0 < length c.loop-cursor.cursor.left = omega arith in
    let piece : piece_at untested c.loop-cursor.cursor ≡ Ok (Some (header_shown c.in-Some.header), c.piece.new.cursor) = c.in_ok-header.ensures.header ∙ ap (λ found. Ok (option_map header_shown found, c.piece.new.cursor)) c.in-Some.is in
    rw c.in_ok-push.ensures.items (passes-unit (sections_shown c.of-sections.result) c.loop-cursor.abbrevs c.open_unit.new.abbrevs c.loop-cursor.units.items c.in_ok-unit.unit (header_shown c.in-Some.header) c.loop-cursor.cursor c.piece.new.cursor more c.in_ok-unit.ensures.header piece c.in_ok-unit.ensures.root
    c.in_ok-unit.ensures.section c.in_ok-unit.ensures.kept c.in_ok-unit.ensures.opened c.loop-cursor.invariant)

pub invariant_of-result : goal.invariant_of-result
invariant_of-result c =
    let ended : length c.loop-cursor.cursor.left ≡ 0 = omega arith in
    record {
      section = c.loop-cursor.invariant.section;
      cut = cut-whole (sections_shown c.of-sections.result) c.loop-cursor.abbrevs c.loop-cursor.units.items c.loop-cursor.cursor ended c.loop-cursor.invariant;
      opened = c.loop-cursor.invariant.opened;
    }

pub returns-clause-accepted : goal.returns-clause-accepted
returns-clause-accepted c =
    let ended : length c.loop-cursor.cursor.left ≡ 0 = omega arith in
    ap unit_refusal (sym c.of-sections.ensures) ∙ (none-refused (sections_shown c.of-sections.result) c.loop-cursor.abbrevs c.loop-cursor.units.items c.loop-cursor.cursor ended c.loop-cursor.invariant)
