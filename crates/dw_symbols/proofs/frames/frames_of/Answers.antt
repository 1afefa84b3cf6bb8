use Rattle.std.proofs.Common.{◌≡◌, ◌∙◌, get_or, map, Some, None, arith, refl, ap}
use Rattle.std.specs.Prelude.{slice_get, option_map}
use Rattle.dw_line.specs.Lines.{lines_shown}
use Rattle.std.proofs.lemmas.List.{map_push, length-map}
use Rattle.std.proofs.lemmas.Option.{slice_get-get_or, slice_get-map}
use Rattle.dw_frames.specs.declared.function.Described.{Described}
use Rattle.dw_frames.specs.Told.{described_shown}
use Rattle.dw_symbols.specs.declared.answer.Frame.{Frame}
use Rattle.dw_symbols.specs.Answer.{location_shown, frame_shown}
use Rattle.dw_symbols.specs.Frames.{called_at}
use Rattle.dw_symbols.proofs.FrameLemmas.{goes_on, ends, no-frames}
use Rattle.dw_symbols.proofs.frames.frames_of.Goals as goal

-- what is after the last function
abbrev none : Described
none = record { name = None; call = record { file = None; line = None; column = None } }

pub returns-then-functions-eq0 : goal.returns-then-functions-eq0
returns-then-functions-eq0 c =
    let size = length-map c.args.functions.now described_shown in
    rw (c.in_ok-frames.ensures.items) (no-frames (option_map lines_shown c.args.lines.now) (map described_shown c.args.functions.now) (location_shown c.args.location) (omega (arith, size, c.if-functions-eq0.true)))

pub loop-function-preserved : goal.loop-function-preserved
loop-function-preserved c =
    let functions = c.args.functions.now in
    let k = c.loop-function.function-index in
    let function = get_or functions k none in
    let frame : Frame = record { name = function.name; location = c.replace.result } in
    let next : location_shown c.replace.new.dest ≡ called_at (option_map lines_shown c.args.lines.now) function.call = ap location_shown c.replace.ensures.after ∙ c.in_ok-next.ensures in
    let there : slice_get (map described_shown functions) k ≡ Some (described_shown function) = slice_get-map described_shown functions k ∙ rw (slice_get-get_or functions k none c.loop-function-test.true) refl in
    rw (c.in_ok-push.ensures.items, map_push frame_shown c.loop-function.frames.items frame, c.replace.ensures.value) (goes_on (option_map lines_shown c.args.lines.now) (map described_shown functions) k (described_shown function) (map frame_shown c.loop-function.frames.items) (location_shown c.loop-function.location) (location_shown c.args.location) (location_shown c.replace.new.dest) there next c.loop-function.invariant)

pub returns : goal.returns
returns c =
    let size = length-map c.args.functions.now described_shown in
    ends (option_map lines_shown c.args.lines.now) (map described_shown c.args.functions.now) c.loop-function.function-index (map frame_shown c.loop-function.frames.items) (location_shown c.loop-function.location) (location_shown c.args.location) (omega (arith, size, c.if-functions-eq0.false)) (omega (arith, size, c.loop-function-test.false)) c.loop-function.invariant
