use Rattle.std.proofs.Common.{◌≡◌, ◌∙◌, ℕ, ◌+◌, List, length, map, sym, subst, ap, arith}
use Rattle.std.proofs.lemmas.List.{length-map}
use Rattle.dw_model.specs.Ranges.{Range}
use Rattle.dw_index.specs.declared.segment.Segment.{Segment}
use Rattle.dw_index.specs.Owners.{least_owner}
use Rattle.dw_index.specs.Range.{pair_shown}
use Rattle.dw_ranges.specs.Claims.{in_group}
use Rattle.dw_ranges.specs.LinkedInside.{AreIndexed, claims_linked}
use Rattle.dw_ranges.proofs.IndexedLemmas.{one_indexed}
use Rattle.dw_ranges.proofs.linked.indexes_of.Goals as goal

pub loop-group-preserved : goal.loop-group-preserved
loop-group-preserved c =
    let ranges = claims_linked c.args.links.now in
    let group = c.loop-group.group in
    let pairs : map pair_shown c.deref.result.now ≡ in_group group ranges = ap (map pair_shown) c.deref.ensures.value ∙ c.in_ok-pairs.ensures in
    subst (λ (indexes : List (ℕ × List Segment)). AreIndexed (group + 1) ranges indexes) (sym c.in_ok-push.ensures.items)
    (one_indexed ranges c.loop-group.indexes.items group c.in_ok-index.index c.loop-group.invariant
    (λ a. c.in_ok-index.ensures.owners a ∙ ap (λ (pairs : List (Range × ℕ)). least_owner pairs a) pairs)
    (omega (arith, c.in_ok-index.ensures.size, length-map c.deref.result.now pair_shown, ap (λ (pairs : List (Range × ℕ)). length pairs) pairs)))
