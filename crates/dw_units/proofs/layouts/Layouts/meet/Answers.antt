use Rattle.std.proofs.Common.{◌≡◌, ℕ, Option, arith, length, refl, rules, subst, sym}
use Rattle.std.specs.Prelude.{IfSome}
use Rattle.dw_model.specs.Entry.{attributes_at}
use Rattle.dw_bytes.specs.Width.{size_of}
use Rattle.dw_forms.specs.Size.{Skips}
use Rattle.dw_forms.specs.Declaration.{declaration_shown}
use Rattle.dw_units.specs.declared.layouts.Layouts.{Layouts}
use Rattle.dw_units.proofs.LayoutLemmas.{last, with-layout}
use Rattle.dw_units.proofs.layouts.Layouts.meet.Goals as goal

pub returns-clause-list : goal.returns-clause-list
returns-clause-list c declarations code one kept =
    let new : Layouts = record { bytes = c.args.self.now.bytes; width = c.args.self.now.width; met = c.args.self.now.met; list = c.push.new.self } in
    with-layout declarations c.args.self.now new code one c.in_ok-layout.layout c.in_ok-push.ensures.items refl kept

pub returns-clause-kept : goal.returns-clause-kept
returns-clause-kept c declarations code declared =
    let at : c.len-place.result ≡ length c.args.self.now.list.items = omega (arith, c.len-place.ensures, c.args.self.now.list.ok.0) in
    (c.in_ok-layout.layout, rw (c.in_ok-push.ensures.items, at) (last c.args.self.now.list.items c.in_ok-layout.layout), (declaration_shown c.args.declaration.now, declared, refl, refl, sym c.in_ok-layout.ensures), rw (c.in_ok-layout.ensures) (subst (λ (size : Option ℕ). IfSome size (λ n. Skips n (attributes_at (size_of c.args.self.now.width) c.args.declaration.now.specs))) (search rules) c.size-size.ensures.skips))
