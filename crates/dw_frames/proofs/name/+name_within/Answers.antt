use Rattle.std.proofs.Common.{◌∙◌, ◌-◌, Some, None, ap, sym, arith}
use Rattle.dw_model.specs.Section.{Sections}
use Rattle.dw_model.specs.Name.{name_within}
use Rattle.dw_units.specs.OpenUnit.{sections_of}
use Rattle.dw_frames.specs.Name.{unit_entry}
use Rattle.dw_frames.proofs.NameLemmas.{own-found, own-alone, goes-on}
use Rattle.dw_frames.proofs.name.+name_within.Goals as goal

pub returns-in-Some : goal.returns-in-Some
returns-in-Some t c =
    sym (own-found (sections_of c.args.here.now.unit) c.args.more (unit_entry c.args.here.now) c.in-Some.name.now (sym c.in-Some.ensures))

pub returns-then-more-eq0 : goal.returns-then-more-eq0
returns-then-more-eq0 t c =
    grind (arith, own-alone)

pub returns-in_err-there : goal.returns-in_err-there
returns-in_err-there t c =
    rw (c.from_residual.ensures) (sym (goes-on (sections_of c.args.here.now.unit) c.args.more (unit_entry c.args.here.now) None (omega (arith, c.if-more-eq0.false)) (sym c.in_default.ensures) (sym c.in_err-there.ensures.entry)))

pub returns : goal.returns
returns t c =
    let there = unit_entry c.in_ok-there.there in
    c.name_within.ensures ∙ ap (λ (s : Sections). name_within s (c.args.more - 1) there) c.in_ok-there.ensures.sections
    ∙ sym (goes-on (sections_of c.args.here.now.unit) c.args.more (unit_entry c.args.here.now) (Some there) (omega (arith, c.if-more-eq0.false)) (sym c.in_default.ensures) (sym c.in_ok-there.ensures.entry))
