use Rattle.std.proofs.Common.{arith}
use Rattle.dw_model.specs.Tree.{Node}
use Rattle.dw_frames.specs.Drafts.{is_kept}
use Rattle.dw_frames.specs.Tree.{nodes_of}
use Rattle.dw_frames.specs.TreeInside.{unit_of_tree}
use Rattle.dw_frames.proofs.CountLemmas.{unit-few}
use Rattle.dw_frames.proofs.tree.Tree.kept.Goals as goal

pub returns-clause-bytes : goal.returns-clause-bytes
returns-clause-bytes c =
    let of = unit_of_tree c.self.inside in
    let few = c.self.invariant.chains.few in
    let functions = unit-few of.sections of.unit (λ (node : Node). is_kept of.sections of.unit node.entry) (nodes_of of.sections of.unit) c.self.invariant.chains.read in
    rw (← c.self.view_is) (omega (arith, few, functions, c.size.ensures.size))

pub returns-clause-enough : goal.returns-clause-enough
returns-clause-enough c =
    rw (← c.self.view_is) (c.self.inside.chains, c.self.invariant.chains.chains, c.size.ensures.counted)
