use Rattle.std.proofs.Common.{map}
use Rattle.std.specs.Prelude.{option_map}
use Rattle.dw_line.specs.Lines.{lines_shown}
use Rattle.dw_frames.specs.Told.{described_shown}
use Rattle.dw_symbols.specs.Answer.{location_shown, frame_shown}
use Rattle.dw_symbols.proofs.FrameLemmas.{SoFar}
use Rattle.dw_symbols.proofs.frames.frames_of.Given as goal

abbrev pub invariant-loop-function : goal.invariant-loop-function
invariant-loop-function l =
    SoFar (option_map lines_shown l.lines) (map described_shown l.functions) l.function-index (map frame_shown l.frames.items) (location_shown l.location) (location_shown l.fn.location)
