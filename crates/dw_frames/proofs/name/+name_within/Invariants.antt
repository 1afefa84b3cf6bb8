use Rattle.dw_frames.proofs.name.+name_within.Given as goal

abbrev pub decreases-name_within : goal.decreases-name_within
decreases-name_within l = l.more
