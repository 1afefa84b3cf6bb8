use Rattle.dw_frames.proofs.tree.Tree.describe.Goals as goal

pub name_of-requires : goal.name_of-requires
name_of-requires c =
    rw (c.in-Some.ensures.unit, c.in-Some.ensures.sections, ← c.self.view_is) c.self.invariant.layouts
