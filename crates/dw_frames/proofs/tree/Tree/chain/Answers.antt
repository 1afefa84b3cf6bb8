use Rattle.std.proofs.Common.{◌≡◌, ◌∙◌, reverse, ap}
use Rattle.dw_model.specs.Section.{Sections}
use Rattle.dw_forms.specs.Tables.{tables_shown}
use Rattle.dw_frames.specs.Tree.{chain_at, chain_in}
use Rattle.dw_frames.specs.TreeInside.{unit_of_tree}
use Rattle.dw_frames.proofs.StandLemmas.{all-told, all-named}
use Rattle.dw_frames.proofs.tree.Tree.chain.Goals as goal

pub returns-clause-told : goal.returns-clause-told
returns-clause-told c =
    let of = unit_of_tree c.self.inside in
    let tables : tables_shown c.tables.result.now ≡ of.sections.tables = c.tables.ensures ∙ ap (λ (sections : Sections). sections.tables) c.deref.ensures in
    rw (c.reverse.ensures.items, c.in_ok-ids.ensures, tables, ← c.self.view_is) (all-told of (reverse (chain_at of.sections.tables c.self.inside.chains c.args.a)) (chain_in of c.args.a) c.self.invariant.chains.read (c.self.invariant.chains.chains c.args.a))

pub returns-clause-named : goal.returns-clause-named
returns-clause-named c =
    let of = unit_of_tree c.self.inside in
    let tables : tables_shown c.tables.result.now ≡ of.sections.tables = c.tables.ensures ∙ ap (λ (sections : Sections). sections.tables) c.deref.ensures in
    rw (c.reverse.ensures.items, c.in_ok-ids.ensures, tables, ← c.self.view_is) (all-named of (reverse (chain_at of.sections.tables c.self.inside.chains c.args.a)) (chain_in of c.args.a) (c.self.invariant.chains.chains c.args.a))
