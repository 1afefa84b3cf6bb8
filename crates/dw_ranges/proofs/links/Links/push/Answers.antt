use Rattle.std.proofs.Common.{◌≡◌, ◌∙◌, ◌++◌, ◌∷◌, [], ℕ, Some, length, set, sym, ap, arith}
use Rattle.std.proofs.lemmas.List.{map_push, length-map}
use Rattle.dw_ranges.specs.LinksInside.{last_of, noted, shown}
use Rattle.dw_ranges.proofs.LinkLemmas.{links-push, lasts-push}
use Rattle.dw_ranges.proofs.links.Links.push.Goals as goal

pub invariant_of-self-3 : goal.invariant_of-self-3
invariant_of-self-3 g c =
    let links = c.self.inside.links.items in
    let lasts = c.reach.new.lasts.items in
    let one = c.args.one in
    let size : c.len-place.result ≡ length (shown links) = let len = c.self.inside.links.ok.0 in let l = length-map links (λ link. link.one) in omega (arith, len, l, c.len-place.ensures) in
    let pushed = c.in_ok-push.ensures.items in
    let now : shown c.push.new.self.items ≡ shown links ++ one ∷ [] = ap shown pushed ∙ map_push (λ link. link.one) links (record { one = one; before = c.last-before.result }) in (
      rw pushed (links-push links (record { one = one; before = c.last-before.result }) c.self.invariant.0 c.last-before.ensures),
      λ number. ap (λ (n : ℕ). noted number (set lasts one.group (Some n))) size
          ∙ lasts-push lasts (shown links) one (λ number. c.in_ok-reach.ensures.noted number ∙ c.self.invariant.1 number) c.in_ok-reach.ensures.there number
          ∙ ap (last_of number) (sym now),
    )
