use Rattle.std.proofs.Common.{◌≤◌, ◌∙◌, ℕ, List, ap, arith, get_or, length, refl, subst, subst₂, sym, take}
use Rattle.std.specs.Prelude.{option_map}
use Rattle.std.proofs.lemmas.List.{take_all, take_more, length_push}
use Rattle.dw_model.specs.Entry.{attributes_at}
use Rattle.dw_bytes.specs.Width.{size_of}
use Rattle.dw_forms.specs.Value.{value_shown}
use Rattle.dw_forms.specs.declared.names.TheConstants.{NAMES}
use Rattle.dw_units.specs.View.{attributes_in}
use Rattle.dw_units.specs.declared.attributes.Attribute.{Attribute}
use Rattle.dw_units.proofs.CountedLemmas.{AreFilled, all-filled, filled-none, filled-some, none-filled}
use Rattle.dw_units.proofs.counted.counted_by.Goals as goal
use Rattle.dw_units.proofs.counted.counted_by.Goals.{in-Some+in_ok-push, in_default}

pub loop-name-init : goal.loop-name-init
loop-name-init c =
    let all = attributes_in (attributes_at (size_of c.args.width) c.args.layout.now c.args.values.now) in
    (none-filled all c.new-kept.result.items c.new-kept.ensures.items, subst (λ (kept : List Attribute). length kept ≤ 0) (sym c.new-kept.ensures.items) (omega arith))

pub loop-name-preserved : goal.loop-name-preserved
loop-name-preserved c =
    let all = attributes_in (attributes_at (size_of c.args.width) c.args.layout.now c.args.values.now) in
    let name = get_or NAMES c.loop-name.name-index 0 in
    let names = take c.loop-name.name-index NAMES in
    let more = sym (take_more NAMES c.loop-name.name-index 0 c.loop-name-test.true) in
    elim c.match-counted_value.branch [
      | in-Some+in_ok-push w ↦ (
          let one : Attribute = record { name = name; value = w.in-Some.value } in
          let items = ap (λ kept. kept.items) w.kept-is ∙ w.in_ok-push.ensures.items in
          let counts = sym (ap (option_map value_shown) w.in-Some.is) ∙ c.counted_value.ensures in
          let filled = filled-some all names name c.loop-name.kept.items c.loop-name.invariant.0 one refl counts in
          let size = ap (λ (kept : List Attribute). length kept) items ∙ length_push c.loop-name.kept.items one in
          (subst₂ (AreFilled all) more (sym items) filled, omega (arith, size, c.loop-name.invariant.1))
          )
      | in_default w ↦ (
          let items = ap (λ kept. kept.items) w.kept-is in
          let none = sym c.counted_value.ensures ∙ ap (option_map value_shown) w.in_default.is in
          let filled = filled-none all names name c.loop-name.kept.items c.loop-name.invariant.0 none in
          let size = ap (λ (kept : List Attribute). length kept) items in
          (subst₂ (AreFilled all) more (sym items) filled, omega (arith, size, c.loop-name.invariant.1))
          )
    ]

pub returns-clause-counted : goal.returns-clause-counted
returns-clause-counted c =
    let all = attributes_in (attributes_at (size_of c.args.width) c.args.layout.now c.args.values.now) in
    let whole = take_all c.loop-name.name-index NAMES c.loop-name-test.false in
    all-filled all c.loop-name.kept.items (subst (λ (names : List ℕ). AreFilled all names c.loop-name.kept.items) whole c.loop-name.invariant.0)
