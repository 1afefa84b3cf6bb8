use Rattle.std.proofs.Common.{◌≡◌, ◌∙◌, ℕ, false, List, length, Some, None, Ok, map, ap, sym, subst}
use Rattle.std.specs.Prelude.{◌==◌}
use Rattle.dw_index.specs.Range.{range_shown}
use Rattle.dw_model.specs.Ranges.{Range}
use Rattle.dw_ranges.specs.Tails.{ReadsNew}
use Rattle.dw_frames.specs.Known.{IsOwned, WasAdded}
use Rattle.dw_frames.specs.Reading.{Reading}
use Rattle.dw_frames.specs.UnitIn.{UnitIn}
use Rattle.dw_frames.proofs.KnownLemmas.{IsKept, adds-function, knows-function, knows-lists, knows-one, knows-tails, owns-list, passed-on, was-kept}
use Rattle.dw_frames.proofs.reader.Reader.add_listed.Goals as goal

-- an earlier function owns its addresses
passed-of : (c : goal.In_ok-pass) → IsKept c.args.drafts.now c.pass.new.self c.args.entry.now c.args.list
passed-of c =
    passed-on c.args.drafts.now c.pass.new.self c.args.entry.now c.args.list (subst (IsOwned c.args.drafts.now c.args.list) c.group_of-group.ensures (c.requires.knows.owned (c.args.list, c.group_of-group.result) (c.is_owned.ensures c.if-is_owned.true))) c.in_ok-pass.ensures

pub returns-then-is_owned-clause-function : goal.returns-then-is_owned-clause-function
returns-then-is_owned-clause-function c =
    adds-function c.args.drafts.now c.pass.new.self c.args.entry.now c.args.list (passed-of c) c.args.self.now c.requires.knows c.requires.listed

pub returns-then-is_owned-clause-known : goal.returns-then-is_owned-clause-known
returns-then-is_owned-clause-known c =
    let kept = passed-of c in
    knows-function c.args.self.now c.args.drafts.now c.pass.new.self c.args.entry.now kept.ranges kept.same c.requires.knows

pub returns-then-has_none-clause-known : goal.returns-then-has_none-clause-known
returns-then-has_none-clause-known c =
    let told = c.in_ok-tail.ensures in
    knows-lists c.args.self.now c.note_idle.new.self c.args.drafts.now c.leave_out.new.drafts _ (ap (λ (reading : Reading). reading.of) c.in_ok-note_idle.ensures ∙ told.of) (ap (λ (reading : Reading). reading.owned) c.in_ok-note_idle.ensures ∙ told.owned) c.in_ok-leave_out.ensures c.requires.knows

-- it is kept with its ranges, or with the first of them, where earlier functions own the others
kept-of : (c : goal.In_ok-note_tails) → IsKept c.args.drafts.now c.add.new.self c.args.entry.now c.args.list
kept-of c =
    let told = c.in_ok-tail.ensures in
    let view = c.self-2.view_is in
    let shown : map range_shown c.deref.result.now ≡ c.read_noted.new.self.ranges = ap (map range_shown) c.deref.ensures.value ∙ ap (λ (reading : Reading). reading.ranges) view in
    let pushed : map range_shown c.deref-2.result.now ≡ c.read_noted.new.self.ranges = ap (map range_shown) c.deref-2.ensures.value ∙ ap (λ (reading : Reading). reading.ranges) view in
    let same = c.requires.knows.of ∙ sym told.of ∙ sym (ap (λ (reading : Reading). reading.of) view) in
    was-kept c.args.drafts.now c.add.new.self c.args.entry.now c.args.list c.args.self.now c.in_ok-tail.tail c.read_noted.new.self.ranges c.requires.knows
    (subst (λ (group : ℕ). ReadsNew c.args.self.now.of.sections.tables c.args.self.now.owned (c.args.list, group) (Ok c.in_ok-tail.tail) c.read_noted.new.self.ranges) c.group_of-group.ensures told.ranges)
    (subst (λ (ranges : List Range). c.in_ok-tail.tail ≡ None → (length ranges == 0) ≡ false) shown (c.has_none.ensures.some c.if-has_none.false))
    (subst (λ (ranges : List Range). WasAdded c.args.entry.now ranges (Some c.args.list) c.args.drafts.now c.add.new.self) pushed (c.in_ok-add.ensures.added (ap (λ (of : UnitIn). of.sections.tables) same ∙ sym c.self-2.invariant)))

pub returns-clause-function : goal.returns-clause-function
returns-clause-function c =
    adds-function c.args.drafts.now c.add.new.self c.args.entry.now c.args.list (kept-of c) c.args.self.now c.requires.knows c.requires.listed

pub returns-clause-known : goal.returns-clause-known
returns-clause-known c =
    let kept = kept-of c in
    let told = c.in_ok-tail.ensures in
    let view = c.self-2.view_is in
    let noted = c.in_ok-note_owned.ensures in
    let last = c.in_ok-note_tails.ensures in
    let group = c.group_of-group.result in
    let owns = owns-list c.args.drafts.now c.add.new.self c.args.entry.now c.args.list kept group c.group_of-group.ensures in
    let of = noted.of ∙ ap (λ (reading : Reading). reading.of) view ∙ told.of in
    knows-tails c.note_owned.new.self c.note_tails.new.self c.add.new.self c.args.list group c.args.self.now.of c.read_noted.new.self.begins last.of of (noted.begins ∙ ap (λ (reading : Reading). reading.begins) view) owns told.begins last.owned
    (knows-one c.args.self.now c.note_owned.new.self c.add.new.self (c.args.list, group) _ of (ap (λ (reading : Reading). reading.owned) view ∙ told.owned) owns noted.owned
    (knows-function c.args.self.now c.args.drafts.now c.add.new.self c.args.entry.now kept.ranges kept.same c.requires.knows))
