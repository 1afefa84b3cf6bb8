use Rattle.std.proofs.Common.{◌∙◌, ◌<◌, ℕ, Some, length, ap, refl, sym, subst, arith}
use Rattle.dw_forms.specs.Starts.{StartList, group_of}
use Rattle.dw_forms.proofs.StartsLemmas.{missing, read-at, sought-first, sought-next, sought-none, sought-within, there, Sought}
use Rattle.dw_forms.proofs.starts.Starts.get.Goals as goal

pub returns-in_err-place : goal.returns-in_err-place
returns-in_err-place c = rw (← c.self.view_is) (c.from_residual.ensures ∙ missing c.self.inside.list.items c.args.offset (λ k start e.
    let within = c.self.invariant.grouped k c.args.offset start e in
    omega (arith, within, c.in_err-place.ensures.lookup.3, c.deref.ensures.len)))

pub loop-index-init : goal.loop-index-init
loop-index-init c =
    let found = c.in_ok-place.ensures.lookup in
    let head = read-at c.deref.result.now c.self.inside.heads.items (group_of c.args.offset) c.in_ok-place.field-0.now c.deref.ensures.value found.3.0 found.1 in
    rw (← c.self.view_is) (sought-first c.self.inside.heads.items c.self.inside.before.items c.self.inside.list.items c.args.offset c.in_ok-place.field-0.now c.self.invariant head)

pub index-requires : goal.index-requires
index-requires c =
    let within = sought-within c.args.self.now c.args.offset c.loop-index.place c.loop-index.invariant in
    let size = ap (λ (starts : StartList). length starts) c.self.view_is in
    omega (arith, within, size, c.in-Some.ensures.0, c.in-Some.ensures.1)

pub returns-then-key-offset : goal.returns-then-key-offset
returns-then-key-offset c =
    let starts = c.self.inside.list.items in
    let within = sought-within c.args.self.now c.args.offset c.loop-index.place c.loop-index.invariant in
    let size = ap (λ (starts : StartList). length starts) c.self.view_is in
    let found = read-at starts starts c.in-Some.index c.index.result.now refl (omega (arith, within, size, c.in-Some.ensures.0, c.in-Some.ensures.1)) c.index.ensures in
    rw (← c.self.view_is) (there starts c.in-Some.index c.args.offset c.index.result.now.1 c.self.invariant.distinct (found ∙ ap (λ (offset : ℕ). Some (offset, c.index.result.now.1)) c.if-key-offset.true))

pub index-place-requires : goal.index-place-requires
index-place-requires c =
    let within = sought-within c.args.self.now c.args.offset c.loop-index.place c.loop-index.invariant in
    let size = ap (λ (starts : StartList). length starts) c.self.view_is in
    omega (arith, within, size, c.self.invariant.counted, c.in-Some.ensures.0, c.in-Some.ensures.1)

next : (c : goal.After-row_known-in-Some-1) → (c.index-place.result.now < c.loop-index.place) × Sought c.args.self.now c.args.offset c.index-place.result.now
next c =
    let starts = c.self.inside.list.items in
    let before = c.self.inside.before.items in
    let within = sought-within c.args.self.now c.args.offset c.loop-index.place c.loop-index.invariant in
    let size = ap (λ (starts : StartList). length starts) c.self.view_is in
    let here : c.in-Some.index < length starts = omega (arith, within, size, c.in-Some.ensures.0, c.in-Some.ensures.1) in
    let at = read-at starts starts c.in-Some.index c.index.result.now refl here c.index.ensures in
    let link = read-at before before c.in-Some.index c.index-place.result.now refl (omega (arith, here, c.self.invariant.counted)) c.index-place.ensures in
    let sought = subst (λ (starts : StartList). Sought starts c.args.offset c.loop-index.place) (sym c.self.view_is) c.loop-index.invariant in
    subst (λ (starts : StartList). (c.index-place.result.now < c.loop-index.place) × Sought starts c.args.offset c.index-place.result.now) c.self.view_is (
    sought-next c.self.inside.heads.items before starts c.args.offset c.loop-index.place c.in-Some.index c.index-place.result.now c.index.result.now c.self.invariant sought (omega (arith, c.in-Some.ensures.0, c.in-Some.ensures.1)) at c.if-key-offset.false link)

pub loop-index-smaller : goal.loop-index-smaller
loop-index-smaller c = (next c).0

pub loop-index-preserved : goal.loop-index-preserved
loop-index-preserved c = (next c).1

pub returns : goal.returns
returns c = sought-none c.args.self.now c.args.offset c.loop-index.place c.loop-index.invariant c.in_default.ensures
