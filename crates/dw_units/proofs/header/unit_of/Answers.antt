use Rattle.std.proofs.Common.{◌≡◌, ◌∙◌, Some, false, rules, arith, sym, ap}
use Rattle.dw_model.specs.declared.dwarf.TheConstants.{DWARF_VERSION}
use Rattle.dw_model.specs.Reading.{start, number_at}
use Rattle.dw_model.specs.Unit as model
use Rattle.dw_bytes.specs.Width.{size_of}
use Rattle.dw_units.specs.Header.{extent_shown}
use Rattle.dw_units.proofs.HeaderLemmas.{is_kept}
use Rattle.dw_units.proofs.header.unit_of.Goals as goal

pub returns-clause-header : goal.returns-clause-header
returns-clause-header c =
    let version : number_at 2 (start c.args.bytes.now) ≡ Some (c.in_ok-version.version, c.u16.new.self) = search rules in
    let is : c.in_ok-version.version ≡ DWARF_VERSION = omega arith in
    let type : number_at 1 c.u16.new.self ≡ Some (c.in_ok-ok_or.field-0, c.u8.new.self) = search rules in
    let kept : model.is_skipped (model.kind_of c.in_ok-ok_or.field-0) ≡ false = ap (λ k. model.is_skipped k) (sym c.of_type-kind.ensures) ∙ sym c.if-is_skipped.ensures in
    let e = is_kept (extent_shown c.args.extent) (size_of c.args.width) c.args.bytes.now (c.in_ok-version.version, c.u16.new.self) (c.in_ok-ok_or.field-0, c.u8.new.self) version is type kept in
    rw (e, ← c.of_type-kind.ensures) c.kept_unit.ensures.header
