use Rattle.std.proofs.Common.{◌≡◌, ◌∙◌, length, refl, sym, arith}
use Rattle.std.specs.Prelude.{◌==◌}
use Rattle.std.proofs.lemmas.Bool.{or_left, or_right, eq-eqb}
use Rattle.std.proofs.lemmas.Result.{err_from_is_err_and}
use Rattle.dw_model.proofs.AdvanceLemmas.{entry-onward}
use Rattle.dw_units.specs.Entries.{ranged_at}
use Rattle.dw_frames.proofs.WalkLemmas.{starts, goes-on, ends, stops-unread, stops-unused}
use Rattle.dw_frames.proofs.walk.read_below.Goals as goal

pub loop-entries-init : goal.loop-entries-init
loop-entries-init c = record {
  of = refl;
  knows = c.requires;
  declarations = refl;
  so_far = λ before f. starts c.args.reader.now.of before c.args.entries.now c.args.drafts.now f;
}

pub returns-in_err-next-clause-follows : goal.returns-in_err-next-clause-follows
returns-in_err-next-clause-follows c before f =
    let p = err_from_is_err_and c.from_residual.result c.from_residual.ensures.1 in
    rw (p.1, p.2) (stops-unread c.args.reader.now.of before c.args.entries.now (length c.args.drafts.now.lists) c.loop-entries.drafts c.loop-entries.entries _ (omega (arith, c.depth.ensures, c.loop-entries-test.true)) (sym c.is_done.ensures ∙ c.if-not-is_done.true) c.in_err-next.ensures.next (c.loop-entries.invariant.so_far before f))

pub loop-entries-smaller : goal.loop-entries-smaller
loop-entries-smaller c =
    let read = c.in_ok-next.ensures.next in
    entry-onward c.loop-entries.entries.offset_size c.loop-entries.entries.declarations c.loop-entries.entries.place (read.0, c.next_function.new.self.place) read.1

pub loop-entries-preserved : goal.loop-entries-preserved
loop-entries-preserved c = record {
  of = c.in_ok-keep.ensures.same ∙ c.loop-entries.invariant.of;
  knows = c.in_ok-keep.ensures.known;
  declarations = c.in_ok-next.ensures.declarations ∙ c.loop-entries.invariant.declarations;
  so_far = λ before f.
      let read = c.in_ok-next.ensures.next in
      let kept = (rw (c.loop-entries.invariant.of) at c.in_ok-keep.ensures.entry) (ranged_at c.loop-entries.entries.declarations c.loop-entries.entries.place) read.0 read.2 in
      goes-on c.args.reader.now.of before c.args.entries.now (length c.args.drafts.now.lists) c.loop-entries.drafts c.keep.new.drafts c.loop-entries.entries c.next_function.new.self read.0 (omega (arith, c.depth.ensures, c.loop-entries-test.true)) (sym c.is_done.ensures ∙ c.if-not-is_done.true) c.in_ok-next.ensures.declarations c.in_ok-next.ensures.offset_size read.1 kept.0 kept.1 (c.loop-entries.invariant.so_far before f);
}

pub returns-in_err-keep-clause-follows : goal.returns-in_err-keep-clause-follows
returns-in_err-keep-clause-follows c before f =
    let p = err_from_is_err_and c.from_residual-in_err-keep.result c.from_residual-in_err-keep.ensures.1 in
    let read = c.in_ok-next.ensures.next in
    let told = (rw (c.loop-entries.invariant.of) at c.in_err-keep.ensures.entry) (ranged_at c.loop-entries.entries.declarations c.loop-entries.entries.place) read.0 read.2 in
    rw (p.1, p.2) (stops-unused c.args.reader.now.of before c.args.entries.now (length c.args.drafts.now.lists) c.loop-entries.drafts c.loop-entries.entries read.0 c.next_function.new.self.place _ (omega (arith, c.depth.ensures, c.loop-entries-test.true)) (sym c.is_done.ensures ∙ c.if-not-is_done.true) read.1 told (c.loop-entries.invariant.so_far before f))

pub returns-else-not-is_done-clause-follows : goal.returns-else-not-is_done-clause-follows
returns-else-not-is_done-clause-follows c before f =
    ends c.args.reader.now.of before c.args.entries.now (length c.args.drafts.now.lists) c.loop-entries.drafts c.loop-entries.entries (or_right (length c.loop-entries.drafts.lists == 0) (length c.loop-entries.entries.place.left == 0) (sym c.is_done.ensures ∙ c.if-not-is_done.false)) (c.loop-entries.invariant.so_far before f)

pub returns-after-loop-entries-clause-follows : goal.returns-after-loop-entries-clause-follows
returns-after-loop-entries-clause-follows c before f =
    let none : length c.loop-entries.drafts.lists ≡ 0 = omega (arith, c.depth.ensures, c.loop-entries-test.false) in
    ends c.args.reader.now.of before c.args.entries.now (length c.args.drafts.now.lists) c.loop-entries.drafts c.loop-entries.entries (or_left (length c.loop-entries.drafts.lists == 0) (length c.loop-entries.entries.place.left == 0) (eq-eqb (length c.loop-entries.drafts.lists) 0 none)) (c.loop-entries.invariant.so_far before f)

pub returns-else-not-is_done-clause-of : goal.returns-else-not-is_done-clause-of
returns-else-not-is_done-clause-of c = c.loop-entries.invariant.knows.of ∙ c.loop-entries.invariant.of

pub returns-after-loop-entries-clause-of : goal.returns-after-loop-entries-clause-of
returns-after-loop-entries-clause-of c = c.loop-entries.invariant.knows.of ∙ c.loop-entries.invariant.of
