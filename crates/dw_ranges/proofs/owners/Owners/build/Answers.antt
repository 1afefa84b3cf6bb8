use Rattle.std.proofs.Common.{◌≡◌, ◌∙◌, ◌++◌, ℕ, List, ap, map, reverse}
use Rattle.std.proofs.lemmas.List.{reverse-reverse}
use Rattle.dw_index.specs.declared.range.Range.{Range}
use Rattle.dw_index.specs.Owners.{least_owner}
use Rattle.dw_index.specs.Range.{pair_shown}
use Rattle.dw_ranges.specs.declared.held.HeldList.{HeldList}
use Rattle.dw_ranges.specs.declared.links.Grouped.{Grouped}
use Rattle.dw_ranges.specs.Claims.{Claim, ClaimsState, all_claims, claims_in, held_claims, owner_in, owner_of, raised}
use Rattle.dw_ranges.proofs.ClaimLemmas.{all-owners}
use Rattle.dw_ranges.proofs.owners.Owners.build.Goals as goal

pub returns-clause-owners : goal.returns-clause-owners
returns-clause-owners c tables group a =
    let inside = c.claims.inside in
    let in_order : reverse c.in_ok-held.held ≡ inside.held.items = ap reverse c.in_ok-held.ensures ∙ reverse-reverse inside.held.items in
    ap (λ (held : List (Grouped HeldList)). owner_of tables (record { index = c.in_ok-index.index; others = c.in_ok-others.others; held = held; size = c.in_ok-size.size }) group a) in_order
    ∙ all-owners (map pair_shown inside.first.items) (record { index = c.in_ok-index.index; others = c.in_ok-others.others; held = inside.held.items; size = c.in_ok-size.size })
    (λ a. c.in_ok-index.ensures.owners a ∙ ap (λ (pairs : List (Range × ℕ)). least_owner (map pair_shown pairs) a) c.deref.ensures.value) tables group a
    ∙ ap (λ (others : List Claim). owner_in ((claims_in 0 (map pair_shown inside.first.items) ++ raised others) ++ held_claims tables inside.held.items) group a) c.in_ok-others.ensures.claims
    ∙ ap (λ (claims : ClaimsState). owner_in (all_claims tables claims) group a) c.claims.view_is
