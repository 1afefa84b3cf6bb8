use Rattle.dw_frames.proofs.tree.Tree.name.Goals as goal

pub name_of-requires : goal.name_of-requires
name_of-requires c =
    rw (c.in_ok-function.ensures.unit, c.in_ok-function.ensures.sections, ← c.self.view_is) c.self.invariant.layouts
