use Rattle.dw_frames.proofs.name.view_in.Goals as goal

pub view_by-requires : goal.view_by-requires
view_by-requires c =
    rw (c.requires.sections, ← c.index.ensures.index, c.if-index.true, c.index-2.ensures.index) c.requires.layouts
