use Rattle.std.proofs.Common.{◌∙◌, inl, inr, ap, subst, sym}
use Rattle.std.specs.Prelude.{IfSome}
use Rattle.dw_forms.specs.Tables.{tables_shown}
use Rattle.dw_ranges.specs.ListIndex.{IndexedList, IsOfList}
use Rattle.dw_ranges.proofs.ReadLemmas.{inserted}
use Rattle.dw_ranges.proofs.list_indexes.ListIndexes.read.Goals as goal

pub invariant_of-self-2 : goal.invariant_of-self-2
invariant_of-self-2 c index has =
    let of_list = subst (λ found. IfSome found (IsOfList (tables_shown c.self.inside.tables) c.args.list)) c.in-Some.is c.in_ok-index.ensures in
    elim (inserted _ c.self.inside.indexes.entries _ c.in_ok-shared.shared index (rw (c.in_ok-insert.ensures.entries) at has)) [
      | inl new ↦ ap (λ shared. shared.value.tables) (sym new) ∙ ap (λ (indexed : IndexedList). indexed.tables) (c.in_ok-shared.ensures ∙ c.in_ok-index-2.ensures.ok ∙ of_list)
      | inr old ↦ c.self.invariant index old
    ]
