use Rattle.std.proofs.Common.{◌∙◌, ap, reverse, sym}
use Rattle.dw_ranges.specs.Claims.{in_group}
use Rattle.dw_ranges.specs.LinksInside.{last_of, shown}
use Rattle.dw_ranges.proofs.GroupLemmas.{up-to-last}
use Rattle.dw_ranges.proofs.links.Links.back.Goals as goal

pub invariant_of-result : goal.invariant_of-result
invariant_of-result g c =
    let last = c.last.ensures ∙ ap (last_of c.args.group) (sym c.self.view_is) in
    (c.self.invariant.0, (up-to-last c.args.group (shown c.self.inside.links.items) c.last.result last).0)

pub returns : goal.returns
returns g c =
    let last = c.last.ensures ∙ ap (last_of c.args.group) (sym c.self.view_is) in
    let all = (up-to-last c.args.group (shown c.self.inside.links.items) c.last.result last).1 in
    ap reverse (all ∙ ap (in_group c.args.group) c.self.view_is)
