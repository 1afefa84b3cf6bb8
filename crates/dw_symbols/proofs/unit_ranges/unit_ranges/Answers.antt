use Rattle.std.proofs.Common.{◌≡◌, ◌∙◌, ◌∷◌, ◌+◌, inl, inr, ℕ, List, Ok, Err, length, map, ap, subst, arith}
use Rattle.std.specs.Prelude.{MatchOption, ◌/◌}
use Rattle.std.proofs.lemmas.Result.{err_from_is_err_and}
use Rattle.dw_model.specs.Section.{Sections}
use Rattle.dw_model.specs.Text.{Tables}
use Rattle.dw_elf.specs.OpenFault.{refusal_of}
use Rattle.dw_units.specs.OpenUnit.{unit_of}
use Rattle.dw_index.specs.Range.{range_shown}
use Rattle.dw_ranges.specs.Claims.{all_claims}
use Rattle.dw_ranges.specs.ReadLists.{Has}
use Rattle.dw_ranges.specs.Tails.{EndsAs, ReadsNew, tail_at}
use Rattle.dw_symbols.specs.Owners.{checked_ranges}
use Rattle.dw_symbols.proofs.OwnerLemmas.{all-gathered, front-on, held-on, none-gathered, none-refused, one-range, opened-at, read-again, read-on, refused-at, tails-on}
use Rattle.dw_symbols.proofs.unit_ranges.unit_ranges.Goals as goal

pub loop-i-init : goal.loop-i-init
loop-i-init c = (
  c.new-indexes.ensures ∙ c.tables-tables.ensures,
  none-gathered c.args.units.now (length c.args.units.now.tables.rnglists / 3) _ c.new-claims.result c.new-read.result c.new-claims.ensures (ap (λ (tables : Tables). length tables.rnglists / 3) c.tables-tables.ensures) c.new-read.ensures,
)

pub loop-i-preserved-then-was_read : goal.loop-i-preserved-then-was_read
loop-i-preserved-then-was_read c = (
  c.loop-i.invariant.0,
  read-again c.args.units.now _ c.loop-i.claims c.loop-i.read c.loop-i.i c.at-unit.result c.at-unit.ensures.sections c.at-unit.ensures.unit (omega (arith, c.loop-i-test.true, c.len-i-end.ensures)) c.loop-i.invariant.1 c.answering_list-list.result c.answering_list-list.ensures (c.was_read.ensures c.if-was_read.true),
)

pub loop-i-preserved-in-Some : goal.loop-i-preserved-in-Some
loop-i-preserved-in-Some c =
    let found = rw (c.in-Some.is) at c.in_ok-held.ensures in (
      c.loop-i.invariant.0,
      held-on c.args.units.now _ c.loop-i.claims c.loop-i.read c.loop-i.i c.at-unit.result c.at-unit.ensures.sections c.at-unit.ensures.unit (omega (arith, c.loop-i-test.true, c.len-i-end.ensures)) c.loop-i.invariant.1 c.answering_list-list.result c.answering_list-list.ensures c.hold.new.self c.note.new.read c.in_ok-note.ensures c.in-Some.held (rw (c.loop-i.invariant.0) at found) c.in_ok-hold.ensures.kept c.in_ok-hold.ensures.room c.hold.ensures.few (c.in_ok-hold.ensures.claims c.args.units.now.tables),
    )

pub returns-in_err-tail-clause-refused : goal.returns-in_err-tail-clause-refused
returns-in_err-tail-clause-refused c =
    let s = c.args.units.now in
    let unit = unit_of c.at-unit.result in
    let at = opened-at s c.loop-i.i c.at-unit.result (omega (arith, c.loop-i-test.true, c.len-i-end.ensures)) c.at-unit.ensures.unit in
    let fault = subst (λ (s : Sections). MatchOption (refusal_of c.in_err-tail.field-0.0) (Unit {0}) (λ told. checked_ranges s unit ≡ Err told)) c.at-unit.ensures.sections c.in_err-tail.ensures.refused in
    let p = err_from_is_err_and c.from_residual-in_err-tail.result c.from_residual-in_err-tail.ensures.1 in
    rw (p.1, p.2) (refused-at s c.loop-i.i unit at c.loop-i.invariant.1.units_are (refusal_of c.in_err-tail.field-0.0) fault)

pub loop-i-preserved-in-Some-list_beyond : goal.loop-i-preserved-in-Some-list_beyond
loop-i-preserved-in-Some-list_beyond c =
    let s = c.args.units.now in
    let one = c.in-Some-list_beyond.one in
    let is = rw (c.in-Some-list_beyond.is) at c.list_beyond.ensures in
    let told = subst (λ (s : Sections). ReadsNew s.tables c.loop-i.read (one, 0) (Ok c.in_ok-tail.tail) (map range_shown c.read_front.new.ranges.items)) c.at-unit.ensures.sections c.in_ok-tail.ensures.ranges in
    let ends = subst (λ (s : Sections). (begin : ℕ) → Has c.read_front.new.begins.items begin → EndsAs s.tables one (tail_at one begin)) c.at-unit.ensures.sections c.in_ok-tail.ensures.begins in
    let adds = rw (c.loop-i.invariant.0, c.deref.ensures.value, ← is) at c.in_ok-add.ensures.claims in
    let front = front-on s _ c.loop-i.claims c.loop-i.read c.loop-i.i c.at-unit.result c.at-unit.ensures.sections c.at-unit.ensures.unit (omega (arith, c.loop-i-test.true, c.len-i-end.ensures)) c.loop-i.invariant.1 c.answering_list-list.result c.answering_list-list.ensures c.add.new.claims ((one, 0) ∷ c.loop-i.read) (λ known has. rw is has) one c.in_ok-tail.tail (map range_shown c.read_front.new.ranges.items) is told adds c.in_ok-add.ensures.few in (
      c.in_ok-add.ensures.tables ∙ c.loop-i.invariant.0,
      tails-on s _ c.add.new.claims c.loop-i.read c.note_tails.new.self (c.loop-i.i + 1) one c.read_front.new.begins.items front ends
          (λ known has. elim (c.in_ok-note_tails.ensures known has) [
            | inl new ↦ inl (new.0, subst (λ (begins : List ℕ). Has begins new.0) c.deref-in-Some-list_beyond.ensures.value new.1, new.2)
            | inr old ↦ inr (c.in_ok-note-2.ensures known old)
          ]),
    )

pub returns-in_err-size-clause-refused : goal.returns-in_err-size-clause-refused
returns-in_err-size-clause-refused c =
    let s = c.args.units.now in
    let unit = unit_of c.at-unit.result in
    let at = opened-at s c.loop-i.i c.at-unit.result (omega (arith, c.loop-i-test.true, c.len-i-end.ensures)) c.at-unit.ensures.unit in
    let fault = subst (λ (s : Sections). MatchOption (refusal_of c.in_err-size.field-0.0) (Unit {0}) (λ told. checked_ranges s unit ≡ Err told)) c.at-unit.ensures.sections c.in_err-size.ensures in
    let p = err_from_is_err_and c.from_residual-in_err-size.result c.from_residual-in_err-size.ensures.1 in
    rw (p.1, p.2) (refused-at s c.loop-i.i unit at c.loop-i.invariant.1.units_are (refusal_of c.in_err-size.field-0.0) fault)

pub add-requires-in-loop-i : goal.add-requires-in-loop-i
add-requires-in-loop-i c = record {
  one = rw (c.deref-in-loop-i.ensures.value) (one-range _ _ c.answering_list-list.result c.read_unit.new.ranges.items c.answering_list-list.ensures c.in_ok-size.ensures);
}

pub loop-i-preserved : goal.loop-i-preserved
loop-i-preserved c =
    let adds = rw (c.loop-i.invariant.0, c.deref-in-loop-i.ensures.value) at c.in_ok-add-2.ensures.claims in (
      c.in_ok-add-2.ensures.tables ∙ c.loop-i.invariant.0,
      read-on c.args.units.now _ c.loop-i.claims c.loop-i.read c.loop-i.i c.at-unit.result c.at-unit.ensures.sections c.at-unit.ensures.unit (omega (arith, c.loop-i-test.true, c.len-i-end.ensures)) c.loop-i.invariant.1 c.answering_list-list.result c.answering_list-list.ensures c.add-in-loop-i.new.self c.note-in-loop-i.new.read c.in_ok-note-3.ensures (map range_shown c.read_unit.new.ranges.items) c.in_ok-size.ensures adds c.in_ok-add-2.ensures.few,
    )

pub returns-clause-owns : goal.returns-clause-owns
returns-clause-owns c =
    all-gathered c.args.units.now c.loop-i.i (all_claims c.args.units.now.tables c.loop-i.claims) (omega (arith, c.loop-i-test.false, c.len-i-end.ensures)) c.loop-i.invariant.1.owns

pub returns-clause-accepted : goal.returns-clause-accepted
returns-clause-accepted c =
    none-refused c.args.units.now c.loop-i.i (omega (arith, c.loop-i-test.false, c.len-i-end.ensures)) c.loop-i.invariant.1.units_are
