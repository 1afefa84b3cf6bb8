use Rattle.std.proofs.Common.{◌≡◌, ◌++◌, take}
use Rattle.a2l_lines.specs.Text.{frames_text}
use Rattle.a2l_lines.proofs.text.push_frames.Given as goal

abbrev pub invariant-loop-frame : goal.invariant-loop-frame
invariant-loop-frame l = l.text.items ≡ l.fn.text.items ++ frames_text l.options (take l.frame-index l.frames)
