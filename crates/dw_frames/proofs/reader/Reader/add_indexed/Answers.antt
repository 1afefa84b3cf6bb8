use Rattle.std.proofs.Common.{ap, refl}
use Rattle.dw_frames.specs.UnitIn.{UnitIn}
use Rattle.dw_frames.proofs.KnownLemmas.{IsKept, adds-function, held-on, knows-function, knows-lists, knows-one, owns-list}
use Rattle.dw_frames.proofs.reader.Reader.add_indexed.Goals as goal

-- the function is kept with its list
kept-of : (c : goal.In_ok-note_owned) → IsKept c.args.drafts.now c.hold.new.self c.args.entry.now c.args.list
kept-of c =
    held-on c.args.drafts.now c.hold.new.self c.args.entry.now c.args.list c.args.self.now.of.sections.tables c.args.index.value c.in_ok-has_ranges.field-0 (ap (λ (of : UnitIn). of.sections.tables) c.requires.knows.of) c.requires.index (rw (c.deref.ensures) at c.in_ok-has_ranges.ensures) c.if-not-branch.false c.in_ok-hold.ensures

pub returns-then-not-branch-clause-known : goal.returns-then-not-branch-clause-known
returns-then-not-branch-clause-known c =
    knows-lists c.args.self.now c.args.self.now c.args.drafts.now c.leave_out.new.drafts _ refl refl c.in_ok-leave_out.ensures c.requires.knows

pub returns-clause-function : goal.returns-clause-function
returns-clause-function c =
    adds-function c.args.drafts.now c.hold.new.self c.args.entry.now c.args.list (kept-of c) c.args.self.now c.requires.knows c.requires.listed

pub returns-clause-known : goal.returns-clause-known
returns-clause-known c =
    let kept = kept-of c in
    let noted = c.in_ok-note_owned.ensures in
    knows-one c.args.self.now c.note_owned.new.self c.hold.new.self (c.args.list, c.group_of-group.result) c.args.self.now.owned noted.of refl (owns-list c.args.drafts.now c.hold.new.self c.args.entry.now c.args.list kept c.group_of-group.result c.group_of-group.ensures) noted.owned
    (knows-function c.args.self.now c.args.drafts.now c.hold.new.self c.args.entry.now kept.ranges kept.same c.requires.knows)
