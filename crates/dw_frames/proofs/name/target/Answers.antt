use Rattle.std.proofs.Common.{◌≡◌, ◌∙◌, ◌+◌, ◌-◌, length, Some, sym, ap, arith}
use Rattle.std.specs.Prelude.{option_and_then, slice_get}
use Rattle.dw_model.specs.Unit.{DwarfUnit, units}
use Rattle.dw_model.specs.Name.{target, entry_of}
use Rattle.dw_forms.specs.Value.{value_shown}
use Rattle.dw_units.specs.Unit.{unit_shown}
use Rattle.dw_units.specs.OpenUnit.{sections_of, unit_of}
use Rattle.dw_frames.proofs.NameLemmas.{leads-nowhere}
use Rattle.dw_frames.proofs.name.target.Goals as goal

pub returns-then-n-saturating_sub : goal.returns-then-n-saturating_sub
returns-then-n-saturating_sub c =
    let s = sections_of c.args.here in
    let offset : c.unit.result.now.offset ≡ (unit_of c.args.here).offset = ap (λ (u : DwarfUnit). u.offset) c.unit.ensures.header in
    let last : slice_get (units s.info) (length (units s.info) - 1) ≡ Some (unit_shown c.unit-last.result.now) = rw (← c.units-units.ensures) (rw (sym c.len.ensures) c.unit-last.ensures.header) in
    let behind = leads-nowhere s (unit_shown c.unit-last.result.now) ((unit_of c.args.here).offset + c.in-UnitRef.n) last (omega (arith, offset, c.saturating_sub.ensures, c.if-n-saturating_sub.true)) in
    sym (ap (λ v. option_and_then (entry_of s) (target (unit_of c.args.here) (value_shown v))) c.in-UnitRef.is ∙ behind)
