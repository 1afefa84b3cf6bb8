use Rattle.std.proofs.Common.{inl, inr, subst}
use Rattle.std.specs.BTreeMap.{values}
use Rattle.dw_ranges.specs.ReadLists.{Has}
use Rattle.dw_ranges.proofs.MarkLemmas.{tails-noted}
use Rattle.dw_ranges.proofs.read_lists.ReadLists.note_tails.Goals as goal

pub returns : goal.returns
returns c read h =
    let old = c.self.inside in
    elim (tails-noted (values old.read) old.marks.items c.mark_all.new.marks.items old.base old.addr c.args.list c.args.owner c.args.begins.now read (c.is_same_base.ensures c.if-not-is_same_base.false) (c.is_same_base-2.ensures c.if-not-is_same_base-2.false) c.mark_all.ensures h) [
      | inl new ↦ inl new
      | inr was ↦ inr (c.in_ok-begin_tails.ensures read (subst (λ reads. Has reads read) c.self.view_is was))
    ]
