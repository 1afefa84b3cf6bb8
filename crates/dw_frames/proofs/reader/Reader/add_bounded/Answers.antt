use Rattle.std.proofs.Common.{◌∙◌, map, ap, sym}
use Rattle.dw_index.specs.Range.{range_shown}
use Rattle.dw_frames.specs.Reading.{Reading}
use Rattle.dw_frames.specs.UnitIn.{UnitIn}
use Rattle.dw_frames.proofs.KnownLemmas.{bounded-on, knows-function, knows-lists, knows-same}
use Rattle.dw_frames.proofs.reader.Reader.add_bounded.Goals as goal

pub returns-then-is_empty-clause-known : goal.returns-then-is_empty-clause-known
returns-then-is_empty-clause-known c =
    knows-lists c.args.self.now _ c.args.drafts.now c.leave_out.new.drafts _ (ap (λ (reading : Reading). reading.of) c.self.view_is) (ap (λ (reading : Reading). reading.owned) c.self.view_is) c.in_ok-leave_out.ensures c.requires.knows

pub returns-clause-known : goal.returns-clause-known
returns-clause-known c =
    let ranges = map range_shown c.deref.result.now in
    let tables = ap (λ (of : UnitIn). of.sections.tables) (c.requires.knows.of ∙ ap (λ (reading : Reading). reading.of) (sym c.self.view_is)) ∙ sym c.self.invariant in
    knows-function _ c.args.drafts.now c.add.new.self c.args.entry.now ranges (bounded-on c.args.drafts.now c.add.new.self c.args.entry.now ranges (c.in_ok-add.ensures.added tables))
    (knows-same c.args.self.now _ c.args.drafts.now (ap (λ (reading : Reading). reading.of) c.self.view_is) (ap (λ (reading : Reading). reading.owned) c.self.view_is) c.requires.knows)
