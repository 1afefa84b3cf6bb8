-- Lists that end as others do, and their owners.
use Rattle.std.proofs.Common.{◌≡◌, ◌∙◌, ℕ, List, ◌++◌, Bool, true, Result, Ok, Err, refl, sym, ap, arith}
use Rattle.std.specs.Prelude.{◌||◌}
use Rattle.std.proofs.lemmas.List.Folds.{list_any-append}
use Rattle.dw_model.specs.Faults.{Bad}
use Rattle.dw_model.specs.Ranges.{Range, covers, holds}
use Rattle.dw_model.specs.Text.{Tables}
use Rattle.dw_model.proofs.StepLemmas.{ok_is}
use Rattle.dw_ranges.specs.declared.range_list.RangeList.{RangeList}
use Rattle.dw_ranges.specs.Claims.{Claim, claims_in, in_group, owner_in}
use Rattle.dw_ranges.specs.Lists.{ranges_of_list}
use Rattle.dw_ranges.specs.Owned.{AreOwned, owned}
use Rattle.dw_ranges.specs.Tails.{EndsAs, onto_front}
use Rattle.dw_ranges.proofs.GroupLemmas.{group-elsewhere, group-here, same_or_apart}
use Rattle.dw_ranges.proofs.OwnedLemmas.{behind-owned}

front-of : (front : List Range) (later : Result (List Range) Bad) (all : List Range) → onto_front front later ≡ Ok all → (ranges : List Range) × (later ≡ Ok ranges) × (all ≡ front ++ ranges)
front-of front (Ok ranges) all e = (ranges, refl, sym (ok_is (front ++ ranges) all e))
front-of front (Err f) all e = absurd cc

or-true : (b c : Bool) → c ≡ true → (b || c) ≡ true
or-true b c e = grind arith

-- a list that ends as one whose ranges have owners
pub tail-owned : (tables : Tables) (list other : RangeList) (pairs : List (Range × ℕ)) (bound : ℕ) (all : List Range) → EndsAs tables list other → ranges_of_list tables list ≡ Ok all → AreOwned pairs bound all
    → (ranges : List Range) × (ranges_of_list tables other ≡ Ok ranges) × AreOwned pairs bound ranges
tail-owned tables list other pairs bound all ends e h =
    let parts = front-of ends.front (ranges_of_list tables other) all (sym ends.same ∙ e) in
    (parts.0, parts.1, λ a held. h a (ap (covers a) parts.2 ∙ list_any-append (holds a) ends.front parts.0 ∙ or-true (covers a ends.front) (covers a parts.0) held))

-- ranges that earlier owners own in a group may be left out behind others
pub front-owners : (claims : List Claim) (group : ℕ) (front rest : List Range) (owner k a : ℕ) → AreOwned (in_group group claims) owner rest
    → owner_in (claims ++ claims_in group (owned front owner)) k a ≡ owner_in (claims ++ claims_in group (owned (front ++ rest) owner)) k a
front-owners claims group front rest owner k a h =
    grind (arith, same_or_apart, group-here, group-elsewhere, behind-owned (in_group group claims) front rest owner a h)
