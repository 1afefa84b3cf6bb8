use Rattle.std.proofs.Common.{◌≡◌, ◌∙◌, List, Some, ap, length, refl, subst, sym}
use Rattle.std.specs.Prelude.{slice_get}
use Rattle.std.proofs.lemmas.Option.{same_Some, slice_get_read}
use Rattle.dw_model.specs.Abbrev.{Specification, declared}
use Rattle.dw_bytes.specs.Width.{size_of}
use Rattle.dw_units.specs.Layouts.{IsSize, Means}
use Rattle.dw_units.specs.declared.layouts.Met.{Met}
use Rattle.dw_units.specs.declared.layouts.Met.TheVariants as met_variants
use Rattle.dw_units.proofs.layouts.Layouts.get.Goals as goal

pub returns-in-Plain : goal.returns-in-Plain
returns-in-Plain c declarations are =
    let read : slice_get c.deref.result.now c.args.code ≡ Some c.in_ok-get.field-0.now = slice_get_read c.deref.result.now (length c.deref.result.now) c.args.code c.in_ok-get.field-0.now refl c.in_ok-get.ensures.lookup.3.0 c.in_ok-get.ensures.lookup.1 in
    let at : slice_get c.args.self.now.met.items c.args.code ≡ Some (Some c.in_ok-met.met.now) = rw (← c.deref.ensures.value) (read ∙ ap Some (sym c.in_ok-met.ensures.value)) in
    are c.args.code (met_variants.Plain c.in-Plain.children c.in-Plain.size) (at ∙ ap (λ (one : Met). Some (Some one)) c.in-Plain.is)

pub returns-in_ok-layout-in-Laid : goal.returns-in_ok-layout-in-Laid
returns-in_ok-layout-in-Laid c declarations are =
    let laid = c.in-Laid.laid in
    let read : slice_get c.deref.result.now c.args.code ≡ Some c.in_ok-get.field-0.now = slice_get_read c.deref.result.now (length c.deref.result.now) c.args.code c.in_ok-get.field-0.now refl c.in_ok-get.ensures.lookup.3.0 c.in_ok-get.ensures.lookup.1 in
    let at : slice_get c.args.self.now.met.items c.args.code ≡ Some (Some c.in_ok-met.met.now) = rw (← c.deref.ensures.value) (read ∙ ap Some (sym c.in_ok-met.ensures.value)) in
    let kept = are c.args.code (met_variants.Laid laid) (at ∙ ap (λ (one : Met). Some (Some one)) c.in-Laid.is) in
    let there : slice_get c.args.self.now.list.items laid.place ≡ Some c.in_ok-layout-in-Laid.layout.now = rw (← c.deref-in-Laid.ensures.value) (slice_get_read c.deref-in-Laid.result.now (length c.deref-in-Laid.result.now) laid.place c.in_ok-layout-in-Laid.layout.now refl c.in_ok-layout-in-Laid.ensures.lookup.3.0 c.in_ok-layout-in-Laid.ensures.lookup.1) in
    let same : kept.0 ≡ c.in_ok-layout-in-Laid.layout.now = same_Some kept.0 c.in_ok-layout-in-Laid.layout.now (sym kept.1 ∙ there) in
    (subst (λ (specs : List Specification). Means (declared declarations c.args.code) laid.tag laid.children specs) same kept.2, subst (λ (specs : List Specification). IsSize (size_of c.args.self.now.width) laid.size specs) same kept.3)
