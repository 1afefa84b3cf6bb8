use Rattle.dw_frames.specs.TreeInside.{unit_of_tree}
use Rattle.dw_frames.proofs.StandLemmas.{function-stands}
use Rattle.dw_frames.proofs.tree.Tree.function.Goals as goal

pub returns-in_err-entry-clause-stands : goal.returns-in_err-entry-clause-stands
returns-in_err-entry-clause-stands c =
    rw (← c.self.view_is) (λ node e. function-stands (unit_of_tree c.self.inside) c.args.id node c.self.invariant.chains.read e)

pub returns-then-tag-eq-DW_TAG_subprogram-clause-stands : goal.returns-then-tag-eq-DW_TAG_subprogram-clause-stands
returns-then-tag-eq-DW_TAG_subprogram-clause-stands c =
    rw (← c.self.view_is) (λ node e. function-stands (unit_of_tree c.self.inside) c.args.id node c.self.invariant.chains.read e)

pub returns-clause-stands : goal.returns-clause-stands
returns-clause-stands c =
    rw (← c.self.view_is) (λ node e. function-stands (unit_of_tree c.self.inside) c.args.id node c.self.invariant.chains.read e)

pub view_by-requires : goal.view_by-requires
view_by-requires c =
    rw (c.at-unit.ensures.unit, c.at-unit.ensures.sections, c.deref.ensures) c.self.invariant.layouts
