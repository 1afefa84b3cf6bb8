use Rattle.std.proofs.Common.{reverse, ap, ◌∙◌, arith}
use Rattle.std.specs.List.{flat_map}
use Rattle.std.proofs.lemmas.List.Concat.{flat_map-cons}
use Rattle.dw_forms.specs.Tables.{tables_shown}
use Rattle.dw_ranges.specs.Claims.{in_group, list_claims}
use Rattle.dw_ranges.proofs.ClaimLemmas.{held-in-group}
use Rattle.dw_ranges.proofs.GroupLemmas.{group-reverse}
use Rattle.dw_ranges.proofs.WindowLemmas.{all-before, more-before}
use Rattle.dw_ranges.proofs.window.Window.read.Goals as goal

pub loop-one-preserved : goal.loop-one-preserved
loop-one-preserved c =
    let claims = list_claims (tables_shown c.args.tables.now) in
    more-before (flat_map claims (reverse (in_group 0 c.args.held.now))) (flat_map claims c.loop-one.one-iterator) (claims c.in-Some.one.now) (flat_map claims c.next.new.self) c.args.from c.loop-one.draft c.add_held.new.draft
    (ap (flat_map claims) c.in-Some.ensures.steps ∙ flat_map-cons claims c.in-Some.one.now c.next.new.self) c.loop-one.invariant c.in_ok-add_held.ensures

pub returns-clause-window : goal.returns-clause-window
returns-clause-window c a has =
    let claims = list_claims (tables_shown c.args.tables.now) in
    let lists = in_group 0 c.args.held.now in
    let draft = all-before (flat_map claims (reverse lists)) (flat_map claims c.loop-one.one-iterator) c.args.from c.loop-one.draft (ap (flat_map claims) c.in-None.ensures.steps.0) c.loop-one.invariant in
    grind (arith, (c.in_ok-index.ensures.owners a), c.deref.ensures.value, (draft.owners a has.0 has.1), (held-in-group (tables_shown c.args.tables.now) 0 (reverse c.args.held.now)), (group-reverse 0 c.args.held.now))
